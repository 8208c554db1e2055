-- What stands in the words by places and what is cut from them is the same.
use Rattle.std.specs.Prelude.{◌≡◌, refl, ℕ, zero, suc, ◌+◌, ◌-◌, ◌*◌, ◌/◌, ◌≤◌, ◌<◌, Bool, false, ◌&&◌, ◌||◌, List, [], ◌∷◌, length, take, drop, leb, eqb}
use Rattle.std.specs.List.{list_all, list_any}
use Rattle.std.specs.Simd.{first_chunks}
use Rattle.std.proofs.Common.{sym, ap, ◌∙◌, arith, ne_eqb, add-one, get_or, Option, Some, None, IsSome}
use Rattle.std.proofs.Math.Bool.{and-false}
use Rattle.std.proofs.lemmas.Bool.Decides.{nat_tests}
use Rattle.std.proofs.lemmas.List.{get_or-drop, get_or-take, drop-drop, drop-take, take-take, length-drop, length-take-le}
use Rattle.entry.specs.Entry.{word}
use Rattle.dwarf.specs.Dwarf.{wide, rule_at, rules_from, cfa_at, rule_count, next_row, row_at, rows_from, row_count, rows, registers, member}
use Rattle.dwarf.specs.Dwarf.{rules_fit, cfa_fits, row_fits, rows_fit, rules_of, distinct, head_fits, dwarf_layout}
use Rattle.dwarf.specs.Index.{rows_step, rows_fit_step}
use Rattle.dwarf.specs.Slices.{rule_in, rules_in, row_of, IsRow, fits_in, names_in, row_fits_in}
use Rattle.dwarf.proofs.Chains.{rule_fits_is}

-- ---- words

word_on : (ws : List ℕ) (a i : ℕ) → word (drop a ws) i ≡ word ws (a + i)
word_on ws a i = get_or-drop a ws i 0

word_in : (ws : List ℕ) (k a i : ℕ) → i < k → word (take k (drop a ws)) i ≡ word ws (a + i)
word_in ws k a i h = get_or-take k (drop a ws) i 0 h ∙ word_on ws a i

wide_on : (ws : List ℕ) (a i : ℕ) → wide (drop a ws) i ≡ wide ws (a + i)
unfolding wide
wide_on ws a i = let e : a + (i + 1) ≡ a + i + 1 = omega arith in rw (word_on ws a i, word_on ws a (i + 1), e)

-- ---- rules

rule_four : (ws : List ℕ) (a : ℕ) → rule_in (take 4 (drop a ws)) ≡ rule_at ws a
unfolding rule_in rule_at wide
rule_four ws a =
    let e : a + 0 ≡ a = omega arith in
    let f : a + 3 ≡ a + 2 + 1 = omega arith in
    rw (word_in ws 4 a 0 (omega arith), word_in ws 4 a 1 (omega arith), word_in ws 4 a 2 (omega arith), word_in ws 4 a 3 (omega arith), e, f)

pub rules_cut : (ws : List ℕ) (n a : ℕ) → rules_from ws n a ≡ rules_in (first_chunks 4 n (drop a ws))
unfolding rules_from
rules_cut ws zero a = refl
rules_cut ws (suc n) a = rw (rule_four ws a, drop-drop 4 a ws, rules_cut ws n (a + 4))

rules_fit_cut : (ws : List ℕ) (n a : ℕ) → rules_fit ws n a ≡ list_all fits_in (first_chunks 4 n (drop a ws))
unfolding rules_fit
rules_fit_cut ws zero a = refl
rules_fit_cut ws (suc n) a = rw (rule_fits_is ws a, rule_four ws a, drop-drop 4 a ws, rules_fit_cut ws n (a + 4))

-- the words of so many rules, cut from those that begin with them
first_chunks-take : {X : Type 0} (k m : ℕ) (xs : List X) → 4 * k ≤ m → first_chunks 4 k (take m xs) ≡ first_chunks 4 k xs
first_chunks-take zero m xs h = refl
first_chunks-take (suc k) m xs h =
    let e : 4 + (m - 4) ≡ m = omega arith in
    let d : drop 4 (take m xs) ≡ take (m - 4) (drop 4 xs) = ap (λ j. drop 4 (take j xs)) (sym e) ∙ drop-take 4 (m - 4) xs in
    rw (take-take 4 m xs (omega arith), d, first_chunks-take k (m - 4) (drop 4 xs) (omega arith))

pub rules_whole : (n : ℕ) (ws : List ℕ) → 4 * n ≤ length ws → first_chunks 4 (length (take (4 * n) ws) / 4) (take (4 * n) ws) ≡ first_chunks 4 n ws
rules_whole n ws h =
    let k : length (take (4 * n) ws) / 4 ≡ n = rw (length-take-le (4 * n) ws h) (omega arith) in
    rw (k, first_chunks-take n (4 * n) ws (omega arith))

length-first_chunks : {X : Type 0} (n k : ℕ) (xs : List X) → length (first_chunks n k xs) ≡ k
length-first_chunks n zero xs = refl
length-first_chunks n (suc k) xs = ap suc (length-first_chunks n k (drop n xs))

-- ---- the words from word a on, as words of their own: the row at word b of them

module _ (ws : List ℕ) (a b : ℕ) where
  on : (i : ℕ) → word (drop a ws) (b + i) ≡ word ws (a + b + i)
  on i = let e : a + (b + i) ≡ a + b + i = omega arith in word_on ws a (b + i) ∙ rw e

  wide_of : (i : ℕ) → wide (drop a ws) (b + i) ≡ wide ws (a + b + i)
  wide_of i = let e : a + (b + i) ≡ a + b + i = omega arith in wide_on ws a (b + i) ∙ rw e

  next_on : a + next_row (drop a ws) b ≡ next_row ws (a + b)
  next_on = omega (arith, on 8)

  cfa_on : cfa_at (drop a ws) b ≡ cfa_at ws (a + b)
  unfolding cfa_at
  cfa_on = rw (on 4, on 5, wide_of 6)

  cfa_fits_on : cfa_fits (drop a ws) b ≡ cfa_fits ws (a + b)
  unfolding cfa_fits
  cfa_fits_on = rw (on 4, on 5)

  rules_on : rules_from (drop a ws) (rule_count (drop a ws) b) (b + 9) ≡ rules_from ws (rule_count ws (a + b)) (a + b + 9)
  rules_on =
      let e : a + (b + 9) ≡ a + b + 9 = omega arith in
      rw (on 8, rules_cut (drop a ws) (rule_count ws (a + b)) (b + 9), rules_cut ws (rule_count ws (a + b)) (a + b + 9), drop-drop (b + 9) a ws, e)

  rules_fit_on : rules_fit (drop a ws) (rule_count (drop a ws) b) (b + 9) ≡ rules_fit ws (rule_count ws (a + b)) (a + b + 9)
  rules_fit_on =
      let e : a + (b + 9) ≡ a + b + 9 = omega arith in
      rw (on 8, rules_fit_cut (drop a ws) (rule_count ws (a + b)) (b + 9), rules_fit_cut ws (rule_count ws (a + b)) (a + b + 9), drop-drop (b + 9) a ws, e)

  row_on : row_at (drop a ws) b ≡ row_at ws (a + b)
  row_on = rw (wide_on ws a b, wide_of 2, cfa_on, rules_on)

  row_fits_on : row_fits (drop a ws) b ≡ row_fits ws (a + b)
  unfolding row_fits
  row_fits_on = rw (cfa_fits_on, rules_fit_on, rules_on, on 8)

pub rows_on : (ws : List ℕ) (m a b : ℕ) → rows_from (drop a ws) m b ≡ rows_from ws m (a + b)
unfolding rows_from
rows_on ws zero a b = refl
rows_on ws (suc m) a b = rw (row_on ws a b, rows_on ws m a (next_row (drop a ws) b), next_on ws a b)

pub rows_fit_on : (ws : List ℕ) (m a b : ℕ) → a ≤ length ws → rows_fit (drop a ws) m b ≡ rows_fit ws m (a + b)
unfolding rows_fit
rows_fit_on ws zero a b h = rw (length-drop a ws) (grind (arith, nat_tests))
rows_fit_on ws (suc m) a b h = rw (row_fits_on ws a b, rows_fit_on ws m a (next_row (drop a ws) b) h, next_on ws a b)

-- ---- one row more, of those that the words begin with

-- rows that are cut off do not fit
pub cut_off : (ws : List ℕ) (m a : ℕ) → length ws < a → rows_fit ws m a ≡ false
unfolding rows_fit
cut_off ws zero a h = ne_eqb a (length ws) (λ e. omega arith)
cut_off ws (suc m) a h = rw (cut_off ws m (next_row ws a) (omega arith), and-false (row_fits ws a))

-- none are left
pub fit_end : (ws : List ℕ) (n : ℕ) → n ≤ 0 → rows_fit ws n 0 ≡ eqb (length ws) 0
unfolding rows_fit
fit_end ws n h = let e : n ≡ 0 = omega arith in rw e (grind (arith, nat_tests))

-- n are left to look at
module _ (ws : List ℕ) (n : ℕ) (h : 0 < n) where
  pub fit_cut : length ws < next_row ws 0 → rows_fit ws n 0 ≡ false
  fit_cut l = rows_fit_step ws n 0 h ∙ (rw (cut_off ws (n - 1) (next_row ws 0) l, and-false (row_fits ws 0)))

  -- and the first of them is this one
  module _ {front : List ℕ} {rs : List (List ℕ)} (i : IsRow ws front rs) where
    at_front : (k : ℕ) → k < 9 → word front k ≡ word ws k
    at_front k l = rw i.head_is (get_or-take 9 ws k 0 l)

    first_row : row_of front rs ≡ row_at ws 0
    unfolding cfa_at wide
    first_row = rw (
      at_front 0 (omega arith),
      at_front 1 (omega arith),
      at_front 2 (omega arith),
      at_front 3 (omega arith),
      at_front 4 (omega arith),
      at_front 5 (omega arith),
      at_front 6 (omega arith),
      at_front 7 (omega arith),
      i.rules_are,
      rules_cut ws (rule_count ws 0) 9,
    )

    fits_first : row_fits ws 0 ≡ row_fits_in front rs
    unfolding row_fits row_fits_in cfa_fits
    fits_first = rw (
      at_front 4 (omega arith),
      at_front 5 (omega arith),
      i.rules_are,
      length-first_chunks 4 (rule_count ws 0) (drop 9 ws),
      rules_cut ws (rule_count ws 0) 9,
      rules_fit_cut ws (rule_count ws 0) 9,
    )

    pub rows_more : rows_from ws n 0 ≡ row_of front rs ∷ rows_from (drop (next_row ws 0) ws) (n - 1) 0
    rows_more =
        let e : next_row ws 0 + 0 ≡ next_row ws 0 = omega arith in
        rows_step ws n 0 h ∙ (rw (rows_on ws (n - 1) (next_row ws 0) 0, e, first_row))

    pub fit_more : next_row ws 0 ≤ length ws → rows_fit ws n 0 ≡ (row_fits_in front rs && rows_fit (drop (next_row ws 0) ws) (n - 1) 0)
    fit_more l =
        let e : next_row ws 0 + 0 ≡ next_row ws 0 = omega arith in
        rows_fit_step ws n 0 h ∙ (rw (rows_fit_on ws (n - 1) (next_row ws 0) 0 l, e, fits_first))

-- ---- all of a body's

pub rows_behind : (ws : List ℕ) → rows ws ≡ rows_from (drop 7 ws) (row_count ws) 0
unfolding rows
rows_behind ws = sym (rows_on ws (row_count ws) 7 0)

-- refusal 4, by the words behind the first seven
pub layout_cut : (ws : List ℕ) → 7 ≤ length ws
    → dwarf_layout ws ≡ (head_fits ws && (rows_fit (drop 7 ws) (row_count ws) 0 && leb (distinct [] (registers (rules_of (rows_from (drop 7 ws) (row_count ws) 0)))) 64))
unfolding dwarf_layout
layout_cut ws h = rw (rows_fit_on ws (row_count ws) 7 0 h, ← rows_behind ws)

pub layout_short : (ws : List ℕ) → length ws < 7 → dwarf_layout ws ≡ false
unfolding dwarf_layout
layout_short ws h = rw (cut_off ws (row_count ws) 7 h, and-false (head_fits ws))

-- ---- what the code asks of rules

pub named_is : (r : ℕ) (rs : List (List ℕ)) → list_any (names_in r) rs ≡ member r (registers (rules_in rs))
unfolding member registers rule_in rule_at
named_is r [] = refl
named_is r (w ∷ rs) = ap (λ (t : Bool). eqb (word w 0) r || t) (named_is r rs)

-- ---- a value that has to be there

pub is_there : {A : Type 0} (o : Option A) → (o ≡ None → ⊥) → IsSome o
is_there None h = absurd (h refl)
is_there (Some x) h = refl

-- ---- rules by their index

drop_next : (rs : List (List ℕ)) (i : ℕ) → i < length rs → drop i rs ≡ get_or rs i [] ∷ drop (suc i) rs
drop_next [] i h = absurd (omega arith)
drop_next (w ∷ rs) zero h = refl
drop_next (w ∷ rs) (suc i) h = drop_next rs i (omega arith)

pub next_rule : (rs : List (List ℕ)) (i : ℕ) → i < length rs → rules_in (drop i rs) ≡ rule_in (get_or rs i []) ∷ rules_in (drop (i + 1) rs)
next_rule rs i h = rw (drop_next rs i h, add-one)

pub no_rule : (rs : List (List ℕ)) (i : ℕ) → length rs ≤ i → rules_in (drop i rs) ≡ []
no_rule [] zero h = refl
no_rule [] (suc i) h = refl
no_rule (w ∷ rs) zero h = absurd (omega arith)
no_rule (w ∷ rs) (suc i) h = no_rule rs i (omega arith)
