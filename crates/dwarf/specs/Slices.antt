-- The words of a body as the code cuts them: rows with their rules, four words each, and what its walks have left.
use Rattle.std.specs.Prelude.{◌≡◌, ℕ, Bool, ◌&&◌, List, map, take, drop, length, eqb, leb}
use Rattle.std.specs.List.{list_all}
use Rattle.std.specs.Simd.{first_chunks}
use Rattle.text.specs.Tests.{any}
use Rattle.entry.specs.Entry.{word}
use Rattle.dwarf.specs.declared.RegisterRule.{RegisterRule}
use Rattle.dwarf.specs.declared.body.RowWords.{RowWords}
use Rattle.dwarf.specs.declared.body.Rows.{Rows}
use Rattle.dwarf.specs.Dwarf.{wide, rule_at, cfa_at, Row, rule_count, rows_from, cfa_fits, registers, once, Seen, differs, rule_bytes}
use Rattle.dwarf.specs.Cache.{fits}

-- the rule that four words hold, and the rules of such words
unfoldable pub rule_in : List ℕ → RegisterRule
rule_in w = rule_at w 0

abbrev pub rules_in : List (List ℕ) → List RegisterRule
rules_in rs = map rule_in rs

-- the row of nine words in front and its rules' words
abbrev pub row_of : List ℕ → List (List ℕ) → Row
row_of h rs = record { start = wide h 0; end = wide h 2; cfa = cfa_at h 0; rules = rules_in rs }

abbrev pub row_is : RowWords → Row
row_is r = row_of r.head.now r.rules.now

-- the rows that are left
abbrev pub rows_left : Rows → List Row
rows_left r = rows_from r.words.now r.left 0

-- the words ws begin with a row of these words in front and these rules' words
pub record IsRow (ws : List ℕ) (h : List ℕ) (rs : List (List ℕ)) : Type 0 where
  pub head_is : h ≡ take 9 ws
  pub rules_are : rs ≡ first_chunks 4 (rule_count ws 0) (drop 9 ws)

-- ---- tests of a rule by its words

-- it keeps the ranges
abbrev pub fits_in : List ℕ → Bool
fits_in w = fits (rule_in w)

-- it names this register
abbrev pub names_in : ℕ → List ℕ → Bool
names_in r w = eqb (word w 0) r

-- it differs from the one last seen, and is written
abbrev pub new_in : ℕ → ℕ → (ℕ → Seen) → List ℕ → Bool
new_in f ra c w = differs (c (rule_in w).register) (rule_in w).kind (rule_in w).value && any (rule_bytes f ra (rule_in w))

-- it is this register's and differs from the one last seen
abbrev pub moved_in : ℕ → (ℕ → Seen) → List ℕ → Bool
moved_in r c w = eqb (rule_in w).register r && differs (c (rule_in w).register) (rule_in w).kind (rule_in w).value

-- a row keeps the ranges, and names no register twice
unfoldable pub row_fits_in : List ℕ → List (List ℕ) → Bool
row_fits_in h rs = (cfa_fits h 0 && leb (length rs) 64) && (list_all fits_in rs && once (registers (rules_in rs)))
