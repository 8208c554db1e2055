-- A row's line, from the puts of its parts, and whether there is one.
use mathlib.Core.Path.{◌≡◌, refl, ap, ◌∙◌}
use Prim.Native.Nat.{ℕ}
use mathlib.Core.Bool.{Bool, true, false, cond, ◌&&◌, ◌||◌}
use mathlib.Core.List.{List, [], ◌∷◌, ◌++◌}
use lib.Dec.{T}
use Rattle.std.specs.List.{list_any}
use Rattle.text.specs.Text.{ascii, Put}
use Rattle.text.specs.Tests.{any}
use Rattle.text.specs.Text.Laws.{◌⨾◌}
use Rattle.dwarf.specs.declared.Fde.{Fde}
use Rattle.dwarf.specs.Dwarf.{Seen, differs, CfaSeen, cfa_bytes, default_bytes, start_bytes, line_bytes, row_bytes, cfa_differs, ran_rules, ran_of, ran_row}
use Rattle.dwarf.specs.Index.{row_rules, ran_row_lem, ra_moves, ran_ra, row_once}
use Rattle.dwarf.specs.Slices.{rule_in, rules_in, row_of, new_in, moved_in}

any_append : (xs ys : List ℕ) → any (xs ++ ys) ≡ (any xs || any ys)
unfolding any
any_append [] ys = refl
any_append (x ∷ xs) ys = refl

any_given : (t : Bool) (xs : List ℕ) → any (cond t xs []) ≡ (t && any xs)
unfolding any
any_given true xs = refl
any_given false xs = refl

-- ---- the tests of the rules' words

new_is : (f ra : ℕ) (c : ℕ → Seen) (rs : List (List ℕ)) → list_any (new_in f ra c) rs ≡ any (row_rules f ra c (rules_in rs))
unfolding row_rules any
new_is f ra c [] = refl
new_is f ra c (w ∷ rs) = rw (
  any_append (cond (differs (c (rule_in w).register) (rule_in w).kind (rule_in w).value) _ []) (row_rules f ra c (rules_in rs)),
  any_given (differs (c (rule_in w).register) (rule_in w).kind (rule_in w).value) _,
  ← new_is f ra c rs,
)

moved_is : (r : ℕ) (c : ℕ → Seen) (rs : List (List ℕ)) → list_any (moved_in r c) rs ≡ ra_moves r c (rules_in rs)
unfolding ra_moves
moved_is r c [] = refl
moved_is r c (w ∷ rs) = ap (λ (t : Bool). moved_in r c w || t) (moved_is r c rs)

-- ---- the line

pub put_line_parts : {d d₁ d₂ d₃ d₄ d₅ ts us : List ℕ} {at r₁ r₂ r₃ r₄ r₅ : ℕ} (e : Fde) (start : ℕ) (moved : Bool)
    → Put d at (start_bytes e start) d₁ r₁ → Put d₁ r₁ ts d₂ r₂ → Put d₂ r₂ us d₃ r₃
    → Put d₃ r₃ (default_bytes e start moved) d₄ r₄ → Put d₄ r₄ (ascii "\n") d₅ r₅
    → Put d at (line_bytes e start (ts ++ us) moved) d₅ r₅
unfolding line_bytes
put_line_parts e start moved p₁ p₂ p₃ p₄ p₅ = p₁ ⨾ (p₂ ⨾ p₃) ⨾ p₄ ⨾ p₅

-- the row of these words, its CFA's bytes where it is new, and what its rules come to against those before the row
module _ (e : Fde) (s : CfaSeen) (c : ℕ → Seen) (h : List ℕ) (rs : List (List ℕ)) (ts : List ℕ)
    (new : ts ≡ cond (cfa_differs s (row_of h rs).cfa) (cfa_bytes e.family (row_of h rs).cfa) []) (once : T (row_once (row_of h rs))) where
  row_is_new : any (ran_of e s c (row_of h rs)) ≡ (any ts || list_any (new_in e.family e.ra c) rs)
  unfolding ran_of
  row_is_new = rw (new_is e.family e.ra c rs, ← ran_row_lem e.family e.ra c (rules_in rs) once, new) (any_append (cond (cfa_differs s (row_of h rs).cfa) _ []) _)

  pub row_left : any ts ≡ false → list_any (new_in e.family e.ra c) rs ≡ false → [] ≡ ran_row e s c (row_of h rs)
  unfolding ran_row row_bytes
  row_left a n = rw (row_is_new, a, n)

  pub row_put : (any ts || list_any (new_in e.family e.ra c) rs) ≡ true
      → line_bytes e (row_of h rs).start (ts ++ ran_rules e.family e.ra c (rules_in rs)) (list_any (moved_in e.ra c) rs) ≡ ran_row e s c (row_of h rs)
  unfolding ran_row row_bytes ran_of
  row_put a = let t = row_is_new ∙ a in rw (t, new, moved_is e.ra c rs, ran_ra e.ra c (rules_in rs) once)
