-- The words of a body's operations in fours, as the code goes over them, and that these are the operations of the definitions.
use Rattle.std.specs.Prelude.{◌≡◌, refl, ℕ, zero, suc, ◌+◌, ◌-◌, ◌*◌, ◌/◌, ◌^◌, ◌≤◌, ◌<◌, Bool, true, false, not, cond, ◌&&◌, ◌||◌, T, length, map, take, drop, ltb, leb, eqb, Ok, Err}
use Rattle.std.specs.List.{push, before_first, position_or_len, list_all, list_any}
use Rattle.std.specs.Simd.{first_chunks}
use Rattle.std.proofs.Common.{sym, ap, ◌∙◌, arith, le-leb, lt-ltb, le-ltb, ltb→lt, leb→le, eq-eqb, ne_eqb, add-zero, one-add, drop-drop}
use Rattle.std.proofs.lemmas.List.{map-append, reverse-append, get_or-take, get_or-drop}
use mathlib.Core.List.{List, [], ◌∷◌, reverse}
use Rattle.std.proofs.Math.Decide.{dec_le, dec_lt}
use Rattle.std.proofs.lemmas.Bool.{lt-leb}
use Rattle.std.proofs.Math.IntN.{sub_ℕ}
use Rattle.text.specs.Tests.{and_l, one_less}
use Rattle.lines.specs.Reach.{inside}
use Rattle.refusal.specs.declared.Refusal.TheVariants.{Reach}
use Rattle.entry.specs.declared.Fate.TheVariants.{Skip, Write}
use Rattle.arm64.specs.declared.Op.{Op}
use Rattle.arm64.specs.declared.Op.TheVariants.{AllocStack, SaveReg, SaveRegPreindexed, SaveRegPair, SaveRegPairPreindexed, SaveLrPair, SaveNext, Other, End, Undecodable}
use Rattle.entry.specs.Entry.{word}
use Rattle.entry.specs.Entry.Laws.{only_written}
use Rattle.arm64.specs.Arm64.{op_of, words_of, counting, op_count, ops, no_pair, in_reach, op_fits, ops_fit, arm_layout, undecodable, arm_skipped, arm_judged, run, arm_text}

-- the operation of four words
unfoldable pub op_at : List ℕ → Op
op_at w = op_of (word w 0) (word w 1) (word w 2) (word w 3)

-- the words of an operation are read as it
pub words_read : (o : Op) → op_at (words_of o) ≡ o
unfolding op_at op_of words_of
words_read (AllocStack v) = refl
words_read (SaveReg l r v) = refl
words_read (SaveRegPreindexed l r v) = refl
words_read (SaveRegPair l r v) = refl
words_read (SaveRegPairPreindexed l r v) = refl
words_read (SaveLrPair r v) = refl
words_read SaveNext = refl
words_read Other = refl
words_read End = refl
words_read Undecodable = refl

-- there are four
pub words_length : (o : Op) → length (words_of o) ≡ 4
unfolding words_of
words_length (AllocStack v) = refl
words_length (SaveReg l r v) = refl
words_length (SaveRegPreindexed l r v) = refl
words_length (SaveRegPair l r v) = refl
words_length (SaveRegPairPreindexed l r v) = refl
words_length (SaveLrPair r v) = refl
words_length SaveNext = refl
words_length Other = refl
words_length End = refl
words_length Undecodable = refl

-- is it of this kind
abbrev pub is_kind : ℕ → List ℕ → Bool
is_kind k w = eqb (word w 0) k

-- do its kind and register fit
abbrev pub words_fit : List ℕ → Bool
words_fit w = op_fits (word w 0) (word w 2)

-- the words of n operations from word a on
abbrev pub fours : List ℕ → ℕ → ℕ → List (List ℕ)
fours ws a n = first_chunks 4 n (drop a ws)

-- stored operations, last to first
unfoldable pub ops_run : List (List ℕ) → List Op
ops_run os = reverse (map op_at os)

-- a body that keeps the layout has this address, this size and these operations that count
pub record Holds (ws : List ℕ) (address size : ℕ) (os : List (List ℕ)) : Type 0 where
  pub keeps : arm_layout ws ≡ true
  pub address_is : address ≡ word ws 0
  pub size_is : size ≡ word ws 1
  pub ops_are : ops_run os ≡ ops ws
  pub skipped_is : list_any (is_kind 10) os ≡ arm_skipped ws

-- and is to be written
pub record Admitted (ws : List ℕ) (address size : ℕ) (os : List (List ℕ)) : Type 0 where
  pub judged_is : arm_judged ws ≡ Ok Write
  pub reach : T (in_reach address 0 0 no_pair (ops_run os))
  pub text_is : run address size 0 0 no_pair (ops_run os) ≡ arm_text ws

pub ops_push : (os : List (List ℕ)) (w : List ℕ) → ops_run (push os w) ≡ op_at w ∷ ops_run os
unfolding ops_run
ops_push os w = rw (map-append, reverse-append)

-- ---- four words

word_four : (ws : List ℕ) (a i : ℕ) → i < 4 → word (take 4 (drop a ws)) i ≡ word ws (a + i)
word_four ws a i h = get_or-take 4 (drop a ws) i 0 h ∙ get_or-drop a ws i 0

fours_more : (ws : List ℕ) (a n : ℕ) → fours ws a (suc n) ≡ take 4 (drop a ws) ∷ fours ws (a + 4) n
fours_more ws a n = rw (drop-drop 4 a ws)

first_four : (ws : List ℕ) (a : ℕ) → word (take 4 (drop a ws)) 0 ≡ word ws a
first_four ws a = rw add-zero at (word_four ws a 0 (omega arith))

op_four : (ws : List ℕ) (a : ℕ) → op_at (take 4 (drop a ws)) ≡ op_of (word ws a) (word ws (a + 1)) (word ws (a + 2)) (word ws (a + 3))
unfolding op_at
op_four ws a = rw (first_four ws a, word_four ws a 1 (omega arith), word_four ws a 2 (omega arith), word_four ws a 3 (omega arith))

-- ---- all of them are those of the definitions

before_more : (p : List ℕ → Bool) (w : List ℕ) (os : List (List ℕ)) → before_first p (w ∷ os) ≡ cond (p w) [] (w ∷ before_first p os)
before_more p w os = go (p w)
  where
    n : ℕ
    n = position_or_len p os

    go : (t : Bool) → take (cond (not t) (1 + n) 0) (w ∷ os) ≡ cond t [] (w ∷ take n os)
    go true = refl
    go false = rw (one-add n)

-- what counts of the words from a on
abbrev pub counting_words : List ℕ → ℕ → ℕ → List (List ℕ)
counting_words ws a n = before_first (is_kind 9) (fours ws a n)

words_more : (ws : List ℕ) (a n : ℕ) → counting_words ws a (suc n) ≡ cond (eqb (word ws a) 9) [] (take 4 (drop a ws) ∷ counting_words ws (a + 4) n)
words_more ws a n =
    let w : List ℕ = take 4 (drop a ws) in
    ap (before_first (is_kind 9)) (fours_more ws a n) ∙ before_more (is_kind 9) w (fours ws (a + 4) n)
    ∙ ap (λ (k : ℕ). cond (eqb k 9) [] (w ∷ counting_words ws (a + 4) n)) (first_four ws a)

counting_fours : (ws : List ℕ) (a n : ℕ) → counting ws a n ≡ map op_at (counting_words ws a n)
unfolding counting
counting_fours ws a zero = refl
counting_fours ws a (suc n) = go (eqb (word ws a) 9) (counting_fours ws (a + 4) n) ∙ ap (map op_at) (sym (words_more ws a n))
  where
    o : Op
    o = op_of (word ws a) (word ws (a + 1)) (word ws (a + 2)) (word ws (a + 3))

    go : (t : Bool) → counting ws (a + 4) n ≡ map op_at (counting_words ws (a + 4) n)
        → cond t [] (o ∷ counting ws (a + 4) n) ≡ map op_at (cond t [] (take 4 (drop a ws) ∷ counting_words ws (a + 4) n))
    go true e = refl
    go false e = let f : op_at (take 4 (drop a ws)) ≡ o = op_four ws a in cc

undecodable_fours : (ws : List ℕ) (a n : ℕ) → undecodable ws a n ≡ list_any (is_kind 10) (counting_words ws a n)
unfolding undecodable
undecodable_fours ws a zero = refl
undecodable_fours ws a (suc n) = go (eqb (word ws a) 9) (undecodable_fours ws (a + 4) n) ∙ ap (list_any (is_kind 10)) (sym (words_more ws a n))
  where
    go : (t : Bool) → undecodable ws (a + 4) n ≡ list_any (is_kind 10) (counting_words ws (a + 4) n)
        → cond t false (eqb (word ws a) 10 || undecodable ws (a + 4) n) ≡ list_any (is_kind 10) (cond t [] (take 4 (drop a ws) ∷ counting_words ws (a + 4) n))
    go true e = refl
    go false e = rw (first_four ws a, e)

-- operations that fit, and nothing behind them
ops_fit_fours : (ws : List ℕ) (a n : ℕ) → ops_fit ws a n ≡ (list_all words_fit (fours ws a n) && eqb (a + 4 * n) (length ws))
unfolding ops_fit
ops_fit_fours ws a zero = rw (add-zero a)
ops_fit_fours ws a (suc n) =
    go (ops_fit_fours ws (a + 4) n) ∙ ap (λ (os : List (List ℕ)). list_all words_fit os && eqb (a + 4 * suc n) (length ws)) (sym (fours_more ws a n))
  where
    together : (x y z : Bool) → (x && (y && z)) ≡ ((x && y) && z)
    together true y z = refl
    together false y z = refl

    go : ops_fit ws (a + 4) n ≡ (list_all words_fit (fours ws (a + 4) n) && eqb (a + 4 + 4 * n) (length ws))
        → (op_fits (word ws a) (word ws (a + 2)) && ops_fit ws (a + 4) n)
        ≡ (list_all words_fit (take 4 (drop a ws) ∷ fours ws (a + 4) n) && eqb (a + 4 * suc n) (length ws))
    go e =
        let f : a + 4 + 4 * n ≡ a + 4 * suc n = omega arith in
        rw (e, f, first_four ws a, word_four ws a 2 (omega arith)) (together (op_fits (word ws a) (word ws (a + 2))) _ _)

-- ---- one step of each

pub ops_fit_step : (ws : List ℕ) (a n : ℕ) → 0 < n → ops_fit ws a n ≡ (op_fits (word ws a) (word ws (a + 2)) && ops_fit ws (a + 4) (n - 1))
unfolding ops_fit
ops_fit_step ws a n h = ap (ops_fit ws a) (one_less n h)

pub undecodable_step : (ws : List ℕ) (a n : ℕ) → 0 < n → undecodable ws a n ≡ cond (eqb (word ws a) 9) false (eqb (word ws a) 10 || undecodable ws (a + 4) (n - 1))
unfolding undecodable
undecodable_step ws a n h = ap (undecodable ws a) (one_less n h)

pub layout_few : (ws : List ℕ) → T (arm_layout ws) → op_count ws ≤ 1024
unfolding arm_layout
layout_few ws h = leb→le (op_count ws) 1024 (and_l (leb (op_count ws) 1024) _ h)

-- where they are not too many, the operations and the length decide the layout
pub layout_counted : (ws : List ℕ) → op_count ws ≤ 1024 → ops_fit ws 3 (op_count ws) ≡ arm_layout ws
unfolding arm_layout
layout_counted ws h = rw (le-leb (op_count ws) 1024 h)

-- the words of the operations that count
abbrev pub counting_of : List ℕ → List (List ℕ)
counting_of ws = counting_words ws 3 (op_count ws)

pub ops_run_lem : (ws : List ℕ) → ops ws ≡ ops_run (counting_of ws)
unfolding ops ops_run
ops_run_lem ws = ap reverse (counting_fours ws 3 (op_count ws))

pub skipped_run : (ws : List ℕ) → arm_skipped ws ≡ list_any (is_kind 10) (counting_of ws)
unfolding arm_skipped
skipped_run ws = undecodable_fours ws 3 (op_count ws)

-- ---- the layout

module _ (ws : List ℕ) where
  pub layout_is : arm_layout ws ≡ (leb (op_count ws) 1024 && (list_all words_fit (fours ws 3 (op_count ws)) && eqb (3 + 4 * op_count ws) (length ws)))
  unfolding arm_layout
  layout_is = rw (ops_fit_fours ws 3 (op_count ws))

  -- the words in front
  pub in_front : (front : List ℕ) (i : ℕ) → front ≡ take 3 ws → i < 3 → word front i ≡ word ws i
  in_front front i e h = ap (λ (l : List ℕ). word l i) e ∙ get_or-take 3 ws i 0 h

  -- the words behind them, where they are as many as the count demands
  pub in_fours : (front rest : List ℕ) → front ≡ take 3 ws → rest ≡ drop 3 ws → length rest ≡ 4 * word front 2
      → first_chunks 4 (length rest / 4) rest ≡ fours ws 3 (op_count ws)
  in_fours front rest e f h =
      let n : length rest / 4 ≡ op_count ws = omega (arith, h, in_front front 2 e (omega arith)) in
      rw (n, f)

  pub too_many : 1024 < op_count ws → arm_layout ws ≡ false
  too_many h = layout_is ∙ rw (lt-leb (op_count ws) 1024 h)

  none_behind : (s t : Bool) → (s && (t && false)) ≡ false
  none_behind true true = refl
  none_behind true false = refl
  none_behind false t = refl

  pub other_length : (length ws ≡ 3 + 4 * op_count ws → ⊥) → arm_layout ws ≡ false
  other_length h =
      let e : eqb (3 + 4 * op_count ws) (length ws) ≡ false = ne_eqb (3 + 4 * op_count ws) (length ws) (λ q. h (sym q)) in
      layout_is ∙ rw e (none_behind (leb (op_count ws) 1024) (list_all words_fit (fours ws 3 (op_count ws))))

  pub unfit : false ≡ list_all words_fit (fours ws 3 (op_count ws)) → arm_layout ws ≡ false
  unfit h = layout_is ∙ rw (sym h) (none_behind (leb (op_count ws) 1024) true)

  pub holds : op_count ws ≤ 1024 → length ws ≡ 3 + 4 * op_count ws → true ≡ list_all words_fit (fours ws 3 (op_count ws)) → Holds ws (word ws 0) (word ws 1) (counting_of ws)
  holds few long fit = record {
    keeps = rw (layout_is, le-leb (op_count ws) 1024 few, sym fit, eq-eqb (3 + 4 * op_count ws) (length ws) (sym long));
    address_is = refl;
    size_is = refl;
    ops_are = sym (ops_run_lem ws);
    skipped_is = sym (skipped_run ws);
  }

-- ---- what becomes of it

module _ {ws : List ℕ} {address size : ℕ} {os : List (List ℕ)} (h : Holds ws address size os) where
  pub skipped : true ≡ list_any (is_kind 10) os → arm_judged ws ≡ Ok Skip
  unfolding arm_judged
  skipped e = rw (h.keeps, ← h.skipped_is, sym e)

  module _ (no : false ≡ list_any (is_kind 10) os) where
    by_reach : arm_judged ws ≡ cond (in_reach address 0 0 no_pair (ops_run os)) (Ok Write) (Err Reach)
    unfolding arm_judged
    by_reach = rw (h.keeps, ← h.skipped_is, sym no, h.address_is, h.ops_are)

    pub out_of_reach : false ≡ in_reach address 0 0 no_pair (ops_run os) → arm_judged ws ≡ Err Reach
    out_of_reach e = by_reach ∙ rw (sym e)

    pub admitted : true ≡ in_reach address 0 0 no_pair (ops_run os) → Admitted ws address size os
    unfolding arm_text
    admitted e = record { judged_is = by_reach ∙ rw (sym e); reach = rw (sym e) tt; text_is = rw (h.address_is, h.size_is, h.ops_are) }

-- ---- differences inside signed 32 bits

pub inside_below : (a b : ℕ) → a < b → leb (b - a) (2 ^ 31) ≡ inside (sub_ℕ a b)
unfolding inside
inside_below a b h = rw (lt-ltb a b h) (go (dec_le (b - a) (2 ^ 31)))
  where
    go : Dec (b - a ≤ 2 ^ 31) → leb (b - a) (2 ^ 31) ≡ ltb (b - suc a) (2 ^ 31)
    go (yes p) = rw (le-leb (b - a) (2 ^ 31) p, lt-ltb (b - suc a) (2 ^ 31) (omega arith))
    go (no p) = rw (lt-leb (b - a) (2 ^ 31) (omega arith), le-ltb (b - suc a) (2 ^ 31) (omega arith))

pub inside_above : (a b : ℕ) → b ≤ a → ltb (a - b) (2 ^ 31) ≡ inside (sub_ℕ a b)
unfolding inside
inside_above a b h = rw (le-ltb a b h)

-- both at once: one of the tests holds of 0
pub inside_is : (a b : ℕ) → (ltb (a - b) (2 ^ 31) && leb (b - a) (2 ^ 31)) ≡ inside (sub_ℕ a b)
inside_is a b = elim (dec_lt a b) [
  | yes p ↦ let z : a - b ≡ 0 = omega arith in ap (λ (d : ℕ). ltb d (2 ^ 31) && leb (b - a) (2 ^ 31)) z ∙ inside_below a b p
  | no p ↦ let z : b - a ≡ 0 = omega arith in ap (λ (d : ℕ). ltb (a - b) (2 ^ 31) && leb d (2 ^ 31)) z ∙ whole (ltb (a - b) (2 ^ 31)) ∙ inside_above a b (omega arith)
]
  where
    whole : (t : Bool) → (t && true) ≡ t
    whole true = refl
    whole false = refl

pub inside_bound : (a b : ℕ) → T (inside (sub_ℕ a b)) → a < b + 2 ^ 31
unfolding inside
inside_bound a b h = elim (dec_lt a b) [
  | yes p ↦ omega arith
  | no p ↦ let q : b ≤ a = omega arith in omega (arith, ltb→lt (a - b) (2 ^ 31) (rw (le-ltb a b q) at h))
]

-- ---- an entry that is written

pub written : (ws : List ℕ) → arm_judged ws ≡ Ok Write → T (arm_layout ws) × T (in_reach (word ws 0) 0 0 no_pair (ops ws))
unfolding arm_judged
written ws h = only_written (arm_layout ws) (arm_skipped ws) (in_reach (word ws 0) 0 0 no_pair (ops ws)) Reach h
