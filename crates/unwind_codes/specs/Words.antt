-- What is true of every decoded body (document 02, request 3): it keeps the ARM64 layout, so that refusal 4 never meets it; the words that a kind does
-- not use are 0; it has at most 4,099 words; and what stood in the room does not matter.
use Rattle.std.specs.Prelude.{◌≡◌, refl, Bool, true, false, cond, ◌&&◌, List, [], ◌∷◌, ◌++◌, ℕ, zero, suc, ◌+◌, ◌*◌, ◌/◌, ◌%◌, ◌≤◌, ◌<◌, T, length, get_or, take, eqb, leb, Result, Ok, Err}
use Rattle.std.proofs.Common.{subst, arith, length-append, get_or-append-add, append_assoc, leb→le, le→leb, leb-false}
use Rattle.std.proofs.Math.Seq.{get_or-append_seam}
use Rattle.std.proofs.Math.Dec.{eqb_refl}
use Rattle.text.specs.Tests.{is_true, and_l, and_r, both, either, all}
use Rattle.entry.specs.Entry.{Judged, word}
use Rattle.entry.specs.declared.Fate.TheVariants.{Skip, Write}
use Rattle.refusal.specs.declared.Refusal.{Refusal}
use Rattle.refusal.specs.declared.Refusal.TheVariants.{Layout, Reach}
use Rattle.refusal.specs.Refusal.{answer_number}
use Rattle.arm64.specs.Arm64.{words_of, op_fits, ops_fit, arm_layout, arm_skipped, arm_judged, in_reach, no_pair, ops}
use Rattle.fill.specs.Fill.{Fills}
use Rattle.fill.specs.Fill.Laws.{count as filled, filled_alike}
use Rattle.arm64.specs.declared.Op.{Op}
use Rattle.arm64.specs.declared.Op.TheVariants.{AllocStack, SaveReg, SaveRegPreindexed, SaveRegPair, SaveRegPairPreindexed, SaveLrPair, SaveNext, Other, End, Undecodable}
use Rattle.unwind_codes.specs.UnwindCodes.{any_reg, any_reg_offset, any_save, Code, codes, fits, find, count, behind, meant, number, size_at, operation_at, whole, list}
use Rattle.unwind_codes.specs.UnwindCodes.{op_words, arm_body, arm_number, decoded}
use Rattle.unwind_codes.specs.Index.{ops_length}

-- ---- a test of every operation, kind, letter, register and value

-- of n operations from word a on
unfoldable pub ops_are : (ℕ → ℕ → ℕ → ℕ → Bool) → List ℕ → ℕ → ℕ → Bool
ops_are p ws a zero = true
ops_are p ws a (suc n) = p (word ws a) (word ws (a + 1)) (word ws (a + 2)) (word ws (a + 3)) && ops_are p ws (a + 4) n

-- a kind's unused words are 0: of an allocation letter and register, of a register and lr the letter, of 7 to 10 all three
unfoldable pub unused_zero : ℕ → ℕ → ℕ → ℕ → Bool
unused_zero k l r v =
    cond (eqb k 1) (eqb l 0 && eqb r 0) (cond (leb 2 k && leb k 5) true (cond (eqb k 6) (eqb l 0) (eqb l 0 && (eqb r 0 && eqb v 0))))

-- ---- of one code

module _ (p : ℕ → ℕ → ℕ → ℕ → Bool) where
  abbrev pub test : Op → Bool
  test o = p (word (words_of o) 0) (word (words_of o) 1) (word (words_of o) 2) (word (words_of o) 3)

  -- where every code of the table passes whatever its bytes are, every operation does
  found : (cs : List Code) (b n : ℕ) → T (test Undecodable) → T (all (λ c. test (meant c n)) cs) → T (test (meant (find cs b) n))
  unfolding find meant
  found [] b n d h = d
  found (c ∷ cs) b n d h = either (λ (q : Code). test (meant q n)) (fits c b) c (find cs b) (and_l (test (meant c n)) _ h) (found cs b n d (and_r (test (meant c n)) _ h))

  abbrev pub Passes : Type 0
  Passes = (n : ℕ) → T (all (λ c. test (meant c n)) codes)

  pub operation_passes : T (test Undecodable) → Passes → (bs : List ℕ) → T (test (operation_at bs))
  unfolding operation_at
  operation_passes d h bs = found codes (get_or bs 0 0) (number (size_at bs) bs) d (h (number (size_at bs) bs))

-- ---- words behind others

module _ (front : List ℕ) (x y z w : ℕ) (rest : List ℕ) where
  first_word : word (front ++ (x ∷ y ∷ z ∷ w ∷ rest)) (length front) ≡ x
  first_word = get_or-append_seam front x (y ∷ z ∷ w ∷ rest) 0

  second_word : word (front ++ (x ∷ y ∷ z ∷ w ∷ rest)) (length front + 1) ≡ y
  second_word = get_or-append-add front (x ∷ y ∷ z ∷ w ∷ rest) 1 0

  third_word : word (front ++ (x ∷ y ∷ z ∷ w ∷ rest)) (length front + 2) ≡ z
  third_word = get_or-append-add front (x ∷ y ∷ z ∷ w ∷ rest) 2 0

  fourth_word : word (front ++ (x ∷ y ∷ z ∷ w ∷ rest)) (length front + 3) ≡ w
  fourth_word = get_or-append-add front (x ∷ y ∷ z ∷ w ∷ rest) 3 0

  -- a test of the words behind these four
  behind_four : (P : List ℕ → ℕ → Type 0) → P ((front ++ (x ∷ y ∷ z ∷ w ∷ [])) ++ rest) (length (front ++ (x ∷ y ∷ z ∷ w ∷ [])))
      → P (front ++ (x ∷ y ∷ z ∷ w ∷ rest)) (length front + 4)
  behind_four P h = rw (append_assoc front (x ∷ y ∷ z ∷ w ∷ []) rest, length-append front (x ∷ y ∷ z ∷ w ∷ [])) at h

-- the words of an operation, one by one
words_four : (o : Op) → word (words_of o) 0 ∷ word (words_of o) 1 ∷ word (words_of o) 2 ∷ word (words_of o) 3 ∷ [] ≡ words_of o
unfolding words_of
words_four (AllocStack v) = refl
words_four (SaveReg l r v) = refl
words_four (SaveRegPreindexed l r v) = refl
words_four (SaveRegPair l r v) = refl
words_four (SaveRegPairPreindexed l r v) = refl
words_four (SaveLrPair r v) = refl
words_four SaveNext = refl
words_four Other = refl
words_four End = refl
words_four Undecodable = refl

module _ (p : ℕ → ℕ → ℕ → ℕ → Bool) (each : (bs : List ℕ) → T (test p (operation_at bs))) where
  -- an operation behind others
  more_pass : (front : List ℕ) (x y z w : ℕ) (rest : List ℕ) (n : ℕ) → T (p x y z w)
      → T (ops_are p ((front ++ (x ∷ y ∷ z ∷ w ∷ [])) ++ rest) (length (front ++ (x ∷ y ∷ z ∷ w ∷ []))) n)
      → T (ops_are p (front ++ (x ∷ y ∷ z ∷ w ∷ rest)) (length front) (suc n))
  unfolding ops_are
  more_pass front x y z w rest n h k =
      rw (first_word front x y z w rest, second_word front x y z w rest, third_word front x y z w rest, fourth_word front x y z w rest)
      (both (p x y z w) _ h (behind_four front x y z w rest (λ ws a. T (ops_are p ws a n)) k))

  -- the words of codes, wherever they stand
  ops_pass : (front : List ℕ) (cs : List (List ℕ)) → T (ops_are p (front ++ op_words cs) (length front) (length cs))
  unfolding ops_are op_words
  ops_pass front [] = tt
  ops_pass front (c ∷ cs) =
      let w = words_of (operation_at c) in
      let here = word w 0 ∷ word w 1 ∷ word w 2 ∷ word w 3 ∷ [] in
      subst (λ (l : List ℕ). T (ops_are p (front ++ (l ++ op_words cs)) (length front) (suc (length cs)))) (words_four (operation_at c))
      (more_pass front (word w 0) (word w 1) (word w 2) (word w 3) (op_words cs) (length cs) (each c) (ops_pass (front ++ here) cs))

  -- every operation of a decoded body passes
  pub body_passes : (address size : ℕ) (bs : List ℕ) → T (ops_are p (arm_body address size bs) 3 (length (list bs)))
  unfolding arm_body
  body_passes address size bs = ops_pass (address ∷ size ∷ length (list bs) ∷ []) (list bs)

-- ---- save_any_reg, by its cases

any_cases : (P : Op → Type 0) (s t : ℕ) → P Undecodable → P Other
    → (s < 128 → P (any_save (eqb (s / 64) 1) (eqb (s / 32 % 2) 1) (t / 64) (s % 32) (any_reg_offset (eqb (s / 64) 1) (eqb (s / 32 % 2) 1) (t / 64) (t % 64)))) → P (any_reg s t)
unfolding any_reg
any_cases P s t u o f = go (leb 128 s) (eqb (t / 64) 3) (eqb (s / 4 % 8) 4) refl
  where
    p : Bool
    p = eqb (s / 64) 1

    x : Bool
    x = eqb (s / 32 % 2) 1

    go : (a b c : Bool) → leb 128 s ≡ a
        → P (cond a Undecodable (cond b (cond c Undecodable Other) (any_save p x (t / 64) (s % 32) (any_reg_offset p x (t / 64) (t % 64)))))
    go true b c e = u
    go false true true e = u
    go false true false e = o
    go false false c e = f (leb-false 128 s e)

-- ---- unused words

any_unused : (s t : ℕ) → T (test unused_zero (any_reg s t))
unfolding unused_zero words_of
any_unused s t =
    any_cases (λ (o : Op). T (test unused_zero o)) s t tt tt
    (λ h. go (eqb (s / 64) 1) (eqb (s / 32 % 2) 1) (any_reg_offset (eqb (s / 64) 1) (eqb (s / 32 % 2) 1) (t / 64) (t % 64)))
  where
    go : (p x : Bool) (v : ℕ) → T (test unused_zero (any_save p x (t / 64) (s % 32) v))
    go true true v = tt
    go true false v = tt
    go false true v = tt
    go false false v = tt

unused_table : Passes unused_zero
unfolding codes meant count behind unused_zero words_of
unused_table n = both (test unused_zero (any_reg (n / 256 % 256) (n / 1 % 256))) _ (any_unused (n / 256 % 256) (n / 1 % 256)) tt

-- words that a kind does not use are 0
pub unused_zero_lem : (address size : ℕ) (bs : List ℕ) → T (ops_are unused_zero (arm_body address size bs) 3 (length (list bs)))
unfolding unused_zero words_of
unused_zero_lem address size bs = body_passes unused_zero (operation_passes unused_zero tt unused_table) address size bs

-- ---- the layout

abbrev kind_fits : ℕ → ℕ → ℕ → ℕ → Bool
kind_fits k l r v = op_fits k r

any_fits : (s t : ℕ) → T (test kind_fits (any_reg s t))
unfolding op_fits words_of
any_fits s t =
    any_cases (λ (o : Op). T (test kind_fits o)) s t tt tt
    (λ h. go (eqb (s / 64) 1) (eqb (s / 32 % 2) 1) (any_reg_offset (eqb (s / 64) 1) (eqb (s / 32 % 2) 1) (t / 64) (t % 64)))
  where
    fits : T (leb (s % 32) 255)
    fits = le→leb (s % 32) 255 (omega arith)

    go : (p x : Bool) (v : ℕ) → T (test kind_fits (any_save p x (t / 64) (s % 32) v))
    go true true v = fits
    go true false v = fits
    go false true v = fits
    go false false v = fits

fits_table : Passes kind_fits
unfolding codes meant count behind op_fits words_of
fits_table n =
    both (leb (19 + n / 64 % 16) 255) _ (le→leb (19 + n / 64 % 16) 255 (omega arith)) (
    both (leb (19 + n / 64 % 16) 255) _ (le→leb (19 + n / 64 % 16) 255 (omega arith)) (
    both (leb (19 + n / 64 % 16) 255) _ (le→leb (19 + n / 64 % 16) 255 (omega arith)) (
    both (leb (19 + n / 32 % 16) 255) _ (le→leb (19 + n / 32 % 16) 255 (omega arith)) (
    both (leb (19 + 2 * (n / 64 % 8)) 255) _ (le→leb (19 + 2 * (n / 64 % 8)) 255 (omega arith)) (
    both (leb (8 + n / 64 % 8) 255) _ (le→leb (8 + n / 64 % 8) 255 (omega arith)) (
    both (leb (8 + n / 64 % 8) 255) _ (le→leb (8 + n / 64 % 8) 255 (omega arith)) (
    both (leb (8 + n / 64 % 8) 255) _ (le→leb (8 + n / 64 % 8) 255 (omega arith)) (
    both (leb (8 + n / 32 % 8) 255) _ (le→leb (8 + n / 32 % 8) 255 (omega arith)) (
    both (test kind_fits (any_reg (n / 256 % 256) (n / 1 % 256))) _ (any_fits (n / 256 % 256) (n / 1 % 256)) tt)))))))))

-- n operations that pass and fill the words
ops_fit_lem : (ws : List ℕ) (n a : ℕ) → T (ops_are kind_fits ws a n) → a + 4 * n ≡ length ws → T (ops_fit ws a n)
unfolding ops_fit ops_are
ops_fit_lem ws zero a h e = let z : a ≡ length ws = omega (arith, e) in rw z (eqb_refl (length ws))
ops_fit_lem ws (suc n) a h e =
    both (op_fits (word ws a) (word ws (a + 2))) _ (and_l (op_fits (word ws a) (word ws (a + 2))) _ h)
    (ops_fit_lem ws n (a + 4) (and_r (op_fits (word ws a) (word ws (a + 2))) _ h) (omega (arith, e)))

body_size : (address size : ℕ) (bs : List ℕ) → length (arm_body address size bs) ≡ 3 + 4 * length (list bs)
unfolding arm_body
body_size address size bs = omega (arith, ops_length (list bs))

few : (bs : List ℕ) → arm_number bs ≡ 0 → T (leb (length (list bs)) 1024)
unfolding arm_number
few bs e = go (all whole (list bs)) (leb (length (list bs)) 1024) e
  where
    go : (x y : Bool) → ◌≡◌ {A = ℕ} (cond x (cond y 0 4) 12) 0 → T y
    go true true e = tt
    go true false e = absurd (omega (arith, e))
    go false y e = absurd (omega (arith, e))

-- a decoded body keeps the ARM64 layout
pub layout_kept : (address size : ℕ) (bs : List ℕ) → arm_number bs ≡ 0 → T (arm_layout (arm_body address size bs))
unfolding arm_layout arm_body op_fits words_of
layout_kept address size bs z =
    both (leb (length (list bs)) 1024) _ (few bs z)
    (ops_fit_lem (arm_body address size bs) (length (list bs)) 3 (body_passes kind_fits (operation_passes kind_fits tt fits_table) address size bs) (omega (arith, body_size address size bs)))

-- so refusal 4 never meets it
pub never_refused_4 : (address size : ℕ) (bs : List ℕ) → arm_number bs ≡ 0 → arm_judged (arm_body address size bs) ≡ Err Layout → ⊥
unfolding arm_judged
never_refused_4 address size bs z q =
    let ws = arm_body address size bs in
    go (arm_skipped ws) (in_reach (word ws 0) 0 0 no_pair (ops ws)) (rw (is_true (arm_layout ws) (layout_kept address size bs z)) at q)
  where
    go : (s x : Bool) → ◌≡◌ {A = Judged} (cond s (Ok Skip) (cond x (Ok Write) (Err Reach))) (Err Layout) → ⊥
    go true x e = cc
    go false true e = cc
    go false false e = cc

-- ---- the length

-- a body has at most 4,099 words
pub body_length : (address size : ℕ) (bs : List ℕ) → arm_number bs ≡ 0 → length (arm_body address size bs) ≤ 4099
body_length address size bs z = omega (arith, body_size address size bs, leb→le (length (list bs)) 1024 (few bs z))

-- ---- the room

-- what stood in it does not matter
pub room_alike : (address size : ℕ) (bs d d' c c' : List ℕ) (r s : Result ℕ Refusal) → Fills (decoded bs address size (length d)) d d' r
    → Fills (decoded bs address size (length c)) c c' s → length d ≡ length c
    → (answer_number r ≡ answer_number s) × ((filled r ≡ filled s) × (take (filled r) d' ≡ take (filled s) c'))
room_alike address size bs d d' c c' r s p q same = filled_alike (decoded bs address size (length d)) d d' c c' r s p (rw (← same) at q)
