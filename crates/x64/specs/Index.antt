-- The forms that the code walks, and that they are the definitions' forms: infos and operations as slices of a body's words.
use Rattle.std.specs.Prelude.{◌≡◌, refl, ℕ, zero, suc, ◌+◌, ◌-◌, ◌*◌, ◌/◌, ◌^◌, ◌≤◌, ◌<◌, Bool, true, false, cond, ◌&&◌, ◌||◌, ℤ, T, length, take, drop, map, ltb, leb, eqb}
use Rattle.std.specs.Prelude.{Option, None, Some, Ok, Err}
use Rattle.std.specs.List.{list_all, list_any}
use Rattle.std.specs.Simd.{first_chunks}
use Rattle.std.proofs.Common.{sym, ap, ◌∙◌, add-one, add_assoc, arith, le-leb, lt-ltb, le-ltb, ltb→lt, leb→le, ne_eqb}
use Rattle.std.proofs.Math.Bool.{and-false}
use Rattle.std.proofs.Math.Decide.{dec_lt}
use Rattle.std.proofs.lemmas.Bool.Decides.{nat_tests}
use Rattle.std.proofs.lemmas.List.{get_or-drop, get_or-take, get_or_past, drop-drop, drop-take, take-take, length-drop, length-take-le}
use mathlib.Core.List.{List, [], ◌∷◌, ◌++◌, append_assoc, append-nil, reverse, reverse-cons, reverse-append, map-append}
use Rattle.text.specs.Text.{ascii}
use Rattle.digits.specs.Digits.{signed}
use Rattle.lines.specs.Lines.{Bytes, register_plus, at_register_plus, at_cfa_minus, rule, cfa, form_text, rule_text}
use Rattle.lines.specs.Lines.Laws.{row}
use Rattle.lines.specs.Reach.{inside, difference_inside}
use Rattle.text.specs.Tests.{is_true, and_l, and_r, both, all, all_append, one_less, either}
use Rattle.refusal.specs.declared.Refusal.{Refusal}
use Rattle.refusal.specs.declared.Refusal.TheVariants.{Layout, Chain, Reach, Frame}
use Rattle.entry.specs.declared.Fate.TheVariants.{Skip}
use Rattle.x64.specs.declared.Base.{Base}
use Rattle.x64.specs.declared.Op.{Op}
use Rattle.x64.specs.declared.Op.TheVariants.{PushNonVolatile, Alloc, SaveRsp, SaveFp, SetFpRegister, PushMachineFrame, Other, Undecodable}
use Rattle.entry.specs.Entry.{word}
use Rattle.entry.specs.Entry.Laws.{reached}
use Rattle.x64.specs.X64.{base_at, op_of, stored, infos, in_order, info_count, chain, growth_of, value_of, run, op_fits, ops_fit, info_fits}
use Rattle.x64.specs.X64.{infos_fit, x64_layout, undecodable_ops, undecodable_infos, printed, in_reach, set_count, x64_reach, x64_skipped, x64_judged, saved_text, framed_text, cfa_text}

-- ---- infos and operations as slices

-- the operation that three words hold, in an info with this frame register and offset
unfoldable pub op_in : Base → List ℕ → Op
op_in b w = op_of b (word w 0) (word w 1) (word w 2)

-- how many words an info takes that starts with these
abbrev pub info_length : List ℕ → ℕ
info_length ws = 3 + 3 * word ws 2

-- the info that the words ws begin with: its frame register, frame offset and operations, three words each
pub record IsInfo (ws : List ℕ) (b : Base) (ops : List (List ℕ)) : Type 0 where
  pub base_is : b ≡ base_at ws 0
  pub ops_are : ops ≡ first_chunks 3 (word ws 2) (drop 3 ws)

-- where the info behind that at word a starts
abbrev pub next_info : List ℕ → ℕ → ℕ
next_info ws a = a + 3 + 3 * word ws (a + 2)

-- where the k-th info behind that at word a starts
unfoldable pub info_from : List ℕ → ℕ → ℕ → ℕ
info_from ws a zero = a
info_from ws a (suc k) = info_from ws (next_info ws a) k

-- where info k starts, counted from 0
abbrev pub info_at : List ℕ → ℕ → ℕ
info_at ws k = info_from ws 4 k

-- the operation whose words start at i
unfoldable pub op_at : List ℕ → Base → ℕ → Op
op_at ws b i = op_of b (word ws i) (word ws (i + 1)) (word ws (i + 2))

-- n operations stored from word a on, last to first
unfoldable pub ops_run : List ℕ → Base → ℕ → ℕ → List Op
ops_run ws b a zero = []
ops_run ws b a (suc n) = op_at ws b (a + 3 * n) ∷ ops_run ws b a n

-- those of the info at word a
abbrev pub info_ops : List ℕ → ℕ → List Op
info_ops ws a = ops_run ws (base_at ws a) (a + 3) (word ws (a + 2))

-- m infos from word a on, last to first
unfoldable pub infos_run : List ℕ → ℕ → ℕ → List Op
infos_run ws a zero = []
infos_run ws a (suc m) = info_ops ws (info_from ws a m) ++ infos_run ws a m

-- what is left to run: these operations of an info backwards, then the first m infos
abbrev pub left_to_run : List ℕ → ℕ → Base → List (List ℕ) → List Op
left_to_run ws m b ops = reverse (map (op_in b) ops) ++ in_order (infos ws m 4)

-- an operation's words keep their ranges; and those of an info
unfoldable pub op_fits_in : List ℕ → Bool
op_fits_in w = op_fits (word w 0) (word w 1) (word w 2)

unfoldable pub fits_in : Base → List (List ℕ) → Bool
fits_in b ops = (ltb b.register 16 && (leb b.offset 240 && leb (length ops) 255)) && list_all op_fits_in ops

-- an operation's words are those of an undecodable one
abbrev pub undecodable_in : List ℕ → Bool
undecodable_in w = eqb (word w 0) 8

-- ---- the words of operations

word_on : (ws : List ℕ) (a i : ℕ) → word (drop a ws) i ≡ word ws (a + i)
word_on ws a i = get_or-drop a ws i 0

-- the three from word a on
word_in : (ws : List ℕ) (a i : ℕ) → i < 3 → word (take 3 (drop a ws)) i ≡ word ws (a + i)
word_in ws a i h = get_or-take 3 (drop a ws) i 0 h ∙ word_on ws a i

first_in : (ws : List ℕ) (a : ℕ) → word (take 3 (drop a ws)) 0 ≡ word ws a
first_in ws a = let e : a + 0 ≡ a = omega arith in word_in ws a 0 (omega arith) ∙ rw e

module _ (ws : List ℕ) where
  pub stored_in : (b : Base) (a n : ℕ) → stored ws b a n ≡ map (op_in b) (first_chunks 3 n (drop a ws))
  unfolding stored op_in
  stored_in b a zero = refl
  stored_in b a (suc n) =
      rw (first_in ws a, word_in ws a 1 (omega arith), word_in ws a 2 (omega arith), drop-drop 3 a ws, stored_in b (a + 3) n)

  pub ops_fit_in : (a n : ℕ) → ops_fit ws a n ≡ list_all op_fits_in (first_chunks 3 n (drop a ws))
  unfolding ops_fit op_fits_in
  ops_fit_in a zero = refl
  ops_fit_in a (suc n) =
      rw (first_in ws a, word_in ws a 1 (omega arith), word_in ws a 2 (omega arith), drop-drop 3 a ws, ops_fit_in (a + 3) n)

  pub undecodable_ops_in : (a n : ℕ) → undecodable_ops ws a n ≡ list_any undecodable_in (first_chunks 3 n (drop a ws))
  unfolding undecodable_ops
  undecodable_ops_in a zero = refl
  undecodable_ops_in a (suc n) = rw (first_in ws a, drop-drop 3 a ws, undecodable_ops_in (a + 3) n)

first_chunks-take : {X : Type 0} (k m : ℕ) (xs : List X) → 3 * k ≤ m → first_chunks 3 k (take m xs) ≡ first_chunks 3 k xs
first_chunks-take zero m xs h = refl
first_chunks-take (suc k) m xs h =
    let e : 3 + (m - 3) ≡ m = omega arith in
    let d : drop 3 (take m xs) ≡ take (m - 3) (drop 3 xs) = ap (λ j. drop 3 (take j xs)) (sym e) ∙ drop-take 3 (m - 3) xs in
    rw (take-take 3 m xs (omega arith), d, first_chunks-take k (m - 3) (drop 3 xs) (omega arith))

-- the words of n operations, cut from those that start with them
pub first_chunks_cut : (n : ℕ) (ws : List ℕ) → 3 * n ≤ length ws → first_chunks 3 (length (take (3 * n) ws) / 3) (take (3 * n) ws) ≡ first_chunks 3 n ws
first_chunks_cut n ws h =
    let k : length (take (3 * n) ws) / 3 ≡ n = rw (length-take-le (3 * n) ws h) (omega arith) in
    rw (k, first_chunks-take n (3 * n) ws (omega arith))

pub length-first_chunks : {X : Type 0} (n k : ℕ) (xs : List X) → length (first_chunks n k xs) ≡ k
length-first_chunks n zero xs = refl
length-first_chunks n (suc k) xs = ap suc (length-first_chunks n k (drop n xs))

-- ---- the words from word a on, as words of their own

ops_fit_on : (ws : List ℕ) (a b n : ℕ) → ops_fit (drop a ws) b n ≡ ops_fit ws (a + b) n
ops_fit_on ws a b n = rw (ops_fit_in (drop a ws) b n, ops_fit_in ws (a + b) n, drop-drop b a ws)

undecodable_ops_on : (ws : List ℕ) (a b n : ℕ) → undecodable_ops (drop a ws) b n ≡ undecodable_ops ws (a + b) n
undecodable_ops_on ws a b n = rw (undecodable_ops_in (drop a ws) b n, undecodable_ops_in ws (a + b) n, drop-drop b a ws)

-- the info at word b of them
module _ (ws : List ℕ) (a b : ℕ) where
  on_1 : word (drop a ws) (b + 1) ≡ word ws (a + b + 1)
  on_1 = let e : a + (b + 1) ≡ a + b + 1 = omega arith in word_on ws a (b + 1) ∙ rw e

  on_2 : word (drop a ws) (b + 2) ≡ word ws (a + b + 2)
  on_2 = let e : a + (b + 2) ≡ a + b + 2 = omega arith in word_on ws a (b + 2) ∙ rw e

  info_fits_on : info_fits (drop a ws) b ≡ info_fits ws (a + b)
  unfolding info_fits
  info_fits_on = let e : a + (b + 3) ≡ a + b + 3 = omega arith in rw (word_on ws a b, on_1, on_2, ops_fit_on ws a (b + 3) (word ws (a + b + 2)), e)

  next_on : a + next_info (drop a ws) b ≡ next_info ws (a + b)
  next_on = omega (arith, on_2)

infos_fit_on : (ws : List ℕ) (m a b : ℕ) → a ≤ length ws → infos_fit (drop a ws) m b ≡ infos_fit ws m (a + b)
unfolding infos_fit
infos_fit_on ws zero a b h = rw (length-drop a ws) (grind (arith, nat_tests))
infos_fit_on ws (suc m) a b h = rw (info_fits_on ws a b, infos_fit_on ws m a (next_info (drop a ws) b) h, next_on ws a b)

pub undecodable_on : (ws : List ℕ) (m a b : ℕ) → undecodable_infos (drop a ws) m b ≡ undecodable_infos ws m (a + b)
unfolding undecodable_infos
undecodable_on ws zero a b = refl
undecodable_on ws (suc m) a b =
    let e : a + (b + 3) ≡ a + b + 3 = omega arith in
    rw (undecodable_on ws m a (next_info (drop a ws) b), next_on ws a b, undecodable_ops_on ws a (b + 3) (word (drop a ws) (b + 2)), e, on_2 ws a b)

-- ---- one info more, of those that the words begin with

-- infos that are cut off do not fit
cut_off : (ws : List ℕ) (m a : ℕ) → length ws < a → infos_fit ws m a ≡ false
unfolding infos_fit
cut_off ws zero a h = ne_eqb a (length ws) (λ e. omega arith)
cut_off ws (suc m) a h = rw (cut_off ws m (next_info ws a) (omega arith), and-false (info_fits ws a))

-- none are left
pub fit_end : (ws : List ℕ) (n : ℕ) → n ≤ 0 → infos_fit ws n 0 ≡ eqb (length ws) 0
unfolding infos_fit
fit_end ws n h = let e : n ≡ 0 = omega arith in rw e (grind (arith, nat_tests))

-- n are left to look at, and the first of them is this one
module _ (ws : List ℕ) (n : ℕ) (h : 0 < n) where
  pub fit_cut : length ws < info_length ws → infos_fit ws n 0 ≡ false
  unfolding infos_fit
  fit_cut l = ap (λ (k : ℕ). infos_fit ws k 0) (one_less n h) ∙ (rw (cut_off ws (n - 1) (info_length ws) l, and-false (info_fits ws 0)))

  module _ {b : Base} {ops : List (List ℕ)} (i : IsInfo ws b ops) where
    fits_is : info_fits ws 0 ≡ fits_in b ops
    unfolding fits_in info_fits
    fits_is = rw (i.base_is, i.ops_are, length-first_chunks 3 (word ws 2) (drop 3 ws), ops_fit_in ws 3 (word ws 2))

    pub fit_more : info_length ws ≤ length ws → infos_fit ws n 0 ≡ (fits_in b ops && infos_fit (drop (info_length ws) ws) (n - 1) 0)
    unfolding infos_fit
    fit_more l =
        let e : info_length ws + 0 ≡ info_length ws = omega arith in
        ap (λ (k : ℕ). infos_fit ws k 0) (one_less n h) ∙ (rw (infos_fit_on ws (n - 1) (info_length ws) 0 l, e, fits_is))

    pub undecodable_more : undecodable_infos ws n 0 ≡ (list_any undecodable_in ops || undecodable_infos (drop (info_length ws) ws) (n - 1) 0)
    unfolding undecodable_infos
    undecodable_more =
        let e : info_length ws + 0 ≡ info_length ws = omega arith in
        ap (λ (k : ℕ). undecodable_infos ws k 0) (one_less n h)
        ∙ (rw (undecodable_on ws (n - 1) (info_length ws) 0, e, i.ops_are, undecodable_ops_in ws 3 (word ws 2)))

-- ---- the first info

word_there : (ws : List ℕ) (i : ℕ) → 0 < word ws i → i < length ws
word_there ws i h = elim (dec_lt i (length ws)) [
  | yes l ↦ l
  | no l ↦ let e : word ws i ≡ 0 = get_or_past ws i 0 (omega arith) in omega arith
]

pub layout_starts : (ws : List ℕ) → 1 ≤ info_count ws → info_count ws ≤ 32 → infos_fit (drop 4 ws) (info_count ws) 0 ≡ x64_layout ws
unfolding x64_layout
layout_starts ws h k = rw (
  le-leb 1 (info_count ws) h,
  le-leb (info_count ws) 32 k,
  infos_fit_on ws (info_count ws) 4 0 (omega (arith, word_there ws 3 (omega arith))),
)

pub layout_counts : (ws : List ℕ) → T (x64_layout ws) → (1 ≤ info_count ws) × (info_count ws ≤ 32)
unfolding x64_layout
layout_counts ws h = (leb→le 1 (info_count ws) (search (and_l, and_r)), leb→le (info_count ws) 32 (search (and_l, and_r)))

pub layout_no : (ws : List ℕ) → (1 ≤ info_count ws → info_count ws ≤ 32 → ⊥) → x64_layout ws ≡ false
layout_no ws h = go (x64_layout ws) (layout_counts ws)
  where
    go : (t : Bool) → (T t → (1 ≤ info_count ws) × (info_count ws ≤ 32)) → t ≡ false
    go true f = absurd (h (f tt).0 (f tt).1)
    go false f = refl

-- ---- infos by their index

info_next : (ws : List ℕ) (a k : ℕ) → info_from ws a (k + 1) ≡ next_info ws (info_from ws a k)
unfolding info_from
info_next ws a k = rw (add-one k) (go a k)
  where
    go : (a k : ℕ) → info_from ws a (suc k) ≡ next_info ws (info_from ws a k)
    go a zero = refl
    go a (suc k) = go (next_info ws a) k

-- of m infos that fit, those from the k-th on fit
fit_from : (ws : List ℕ) (m a k : ℕ) → T (infos_fit ws m a) → k ≤ m → T (infos_fit ws (m - k) (info_from ws a k))
unfolding infos_fit info_from
fit_from ws m a zero h l = let e : m - 0 ≡ m = omega arith in rw e h
fit_from ws zero a (suc k) h l = absurd (omega arith)
fit_from ws (suc m) a (suc k) h l = let e : suc m - suc k ≡ m - k = omega arith in rw e (fit_from ws m (next_info ws a) k (and_r (info_fits ws a) _ h) (omega arith))

fit_within : (ws : List ℕ) (m a : ℕ) → T (infos_fit ws m a) → a ≤ length ws
fit_within ws m a h = elim (dec_lt (length ws) a) [
  | yes l ↦ absurd (rw (cut_off ws m a l) at h)
  | no l ↦ omega arith
]

pub layout_infos : (ws : List ℕ) → T (x64_layout ws) → T (infos_fit ws (info_count ws) 4)
unfolding x64_layout
layout_infos ws h = and_r (leb 1 (info_count ws) && leb (info_count ws) 32) _ h

pub layout_long : (ws : List ℕ) → T (x64_layout ws) → 4 ≤ length ws
layout_long ws h = fit_within ws (info_count ws) 4 (layout_infos ws h)

module _ (ws : List ℕ) (k : ℕ) where
  -- the words behind info k
  pub behind_info : drop (info_length (drop (info_at ws k) ws)) (drop (info_at ws k) ws) ≡ drop (info_at ws (k + 1)) ws
  behind_info =
      let a = info_at ws k in
      let e : a + info_length (drop a ws) ≡ next_info ws a = omega (arith, word_on ws a 2) in
      rw (drop-drop (info_length (drop a ws)) a ws, e, info_next ws 4 k)

  -- no info is cut off
  pub info_whole : T (x64_layout ws) → k < info_count ws → info_length (drop (info_at ws k) ws) ≤ length (drop (info_at ws k) ws)
  info_whole h l =
      let a = info_at ws k in
      let f = fit_from ws (info_count ws) 4 (k + 1) (layout_infos ws h) (omega arith) in
      let n : next_info ws a ≤ length ws = rw (info_next ws 4 k) at (fit_within ws (info_count ws - (k + 1)) (info_at ws (k + 1)) f) in
      rw (length-drop a ws) (omega (arith, word_on ws a 2))

-- ---- the order of the run

-- running backwards from word a: first what stands from a + 3 on
back_first : (ws : List ℕ) (b : Base) (a n : ℕ) → ops_run ws b a (suc n) ≡ ops_run ws b (a + 3) n ++ (op_at ws b a ∷ [])
unfolding ops_run
back_first ws b a zero = let e : a + 3 * 0 ≡ a = omega arith in rw e
back_first ws b a (suc n) = let e : a + 3 * suc n ≡ a + 3 + 3 * n = omega arith in
    rw e (ap (λ (l : List Op). op_at ws b (a + 3 + 3 * n) ∷ l) (back_first ws b a n))

pub ops_stored : (ws : List ℕ) (b : Base) (a n : ℕ) → reverse (stored ws b a n) ≡ ops_run ws b a n
unfolding stored ops_run op_at
ops_stored ws b a zero = refl
ops_stored ws b a (suc n) =
    reverse-cons (op_at ws b a) (stored ws b (a + 3) n) ∙ ap (λ (l : List Op). l ++ (op_at ws b a ∷ [])) (ops_stored ws b (a + 3) n) ∙ sym (back_first ws b a n)

-- running m + 1 infos from word a on, last to first: that at a comes last
own_last : (ws : List ℕ) (a m : ℕ) → infos_run ws a (suc m) ≡ infos_run ws (next_info ws a) m ++ info_ops ws a
unfolding infos_run info_from
own_last ws a zero = append-nil (info_ops ws a)
own_last ws a (suc m) = ap (λ (l : List Op). info_ops ws (info_from ws (next_info ws a) m) ++ l) (own_last ws a m)
    ∙ sym (append_assoc (info_ops ws (info_from ws (next_info ws a) m)) (infos_run ws (next_info ws a) m) (info_ops ws a))

infos_run_lem : (ws : List ℕ) (m a : ℕ) → in_order (infos ws m a) ≡ infos_run ws a m
unfolding infos in_order infos_run
infos_run_lem ws zero a = refl
infos_run_lem ws (suc m) a = rw (ops_stored ws (base_at ws a) (a + 3) (word ws (a + 2)), infos_run_lem ws m (next_info ws a)) (sym (own_last ws a m))

pub chain_run : (ws : List ℕ) → chain ws ≡ infos_run ws 4 (info_count ws)
unfolding chain
chain_run ws = infos_run_lem ws (info_count ws) 4

-- of m + 1 infos from word a on, the last one runs first
last_first : (ws : List ℕ) (m a : ℕ)
    → in_order (infos ws (m + 1) a)
    ≡ reverse (stored ws (base_at ws (info_from ws a m)) (info_from ws a m + 3) (word ws (info_from ws a m + 2))) ++ in_order (infos ws m a)
unfolding in_order infos info_from
last_first ws m a = rw (add-one m) (go m a)
  where
    own : ℕ → List Op
    own a = reverse (stored ws (base_at ws a) (a + 3) (word ws (a + 2)))

    go : (m a : ℕ) → in_order (infos ws (suc m) a) ≡ own (info_from ws a m) ++ in_order (infos ws m a)
    go zero a = sym (append-nil (own a))
    go (suc m) a = rw (go m (next_info ws a)) (append_assoc (own (info_from ws (next_info ws a) m)) (in_order (infos ws m (next_info ws a))) (own a))

module _ (ws : List ℕ) (m : ℕ) (b : Base) where
  -- an info that comes to run
  pub run_info : {ops : List (List ℕ)} → IsInfo (drop (info_at ws m) ws) b ops → left_to_run ws m b ops ≡ in_order (infos ws (m + 1) 4)
  run_info i =
      let a = info_at ws m in
      let e : a + 0 ≡ a = omega arith in
      rw (
        last_first ws m 4,
        i.base_is,
        i.ops_are,
        word_on ws a 0,
        word_on ws a 1,
        word_on ws a 2,
        drop-drop 3 a ws,
        e,
        stored_in ws (base_at ws a) (a + 3) (word ws (a + 2)),
      )

  -- an info that has run
  pub run_out : (ops : List (List ℕ)) → length ops ≡ 0 → left_to_run ws m b ops ≡ in_order (infos ws m 4)
  run_out [] h = refl
  run_out (w ∷ ops) h = absurd (omega arith)

  -- the operation that runs next
  pub run_op : (ops : List (List ℕ)) (w : List ℕ) → left_to_run ws m b (ops ++ w ∷ []) ≡ op_in b w ∷ left_to_run ws m b ops
  run_op ops w = rw (map-append (op_in b) ops (w ∷ []), reverse-append (map (op_in b) ops) (op_in b w ∷ []))

-- ---- the total

-- what f gives of each operation, added up
unfoldable pub tally : (Op → ℕ) → List Op → ℕ
tally f [] = 0
tally f (o ∷ os) = f o + tally f os

-- what operations add to the total
abbrev pub growths : List Op → ℕ
growths os = tally growth_of os

-- the value that an operation uses and the total after it are below 2^31: what the code tests for refusal 6
abbrev pub within : ℕ → Op → Bool
within S o = ltb (value_of o) (2 ^ 31) && ltb (S + growth_of o) (2 ^ 31)

-- so for each in turn
unfoldable pub reaches : ℕ → List Op → Bool
reaches S [] = true
reaches S (o ∷ os) = within S o && reaches (S + growth_of o) os

-- ---- one step of each

pub ops_step : (ws : List ℕ) (b : Base) (a n : ℕ) → 0 < n → ops_run ws b a n ≡ op_at ws b (a + 3 * (n - 1)) ∷ ops_run ws b a (n - 1)
unfolding ops_run
ops_step ws b a n h = ap (ops_run ws b a) (one_less n h)

pub chain_step : (ws : List ℕ) (a m : ℕ) → 0 < m → infos_run ws a m ≡ info_ops ws (info_from ws a (m - 1)) ++ infos_run ws a (m - 1)
unfolding infos_run
chain_step ws a m h = ap (infos_run ws a) (one_less m h)

pub info_step : (ws : List ℕ) (a k : ℕ) → 0 < k → info_from ws a k ≡ info_from ws (next_info ws a) (k - 1)
unfolding info_from
info_step ws a k h = ap (info_from ws a) (one_less k h)

pub infos_fit_step : (ws : List ℕ) (m a : ℕ) → 0 < m → infos_fit ws m a ≡ (info_fits ws a && infos_fit ws (m - 1) (next_info ws a))
unfolding infos_fit
infos_fit_step ws m a h = ap (λ (k : ℕ). infos_fit ws k a) (one_less m h)

pub ops_fit_step : (ws : List ℕ) (a n : ℕ) → 0 < n
    → ops_fit ws a n ≡ (op_fits (word ws a) (word ws (a + 1)) (word ws (a + 2)) && ops_fit ws (a + 3) (n - 1))
unfolding ops_fit
ops_fit_step ws a n h = ap (ops_fit ws a) (one_less n h)

pub undecodable_ops_step : (ws : List ℕ) (a n : ℕ) → 0 < n → undecodable_ops ws a n ≡ (eqb (word ws a) 8 || undecodable_ops ws (a + 3) (n - 1))
unfolding undecodable_ops
undecodable_ops_step ws a n h = ap (undecodable_ops ws a) (one_less n h)

pub undecodable_step : (ws : List ℕ) (m a : ℕ) → 0 < m
    → undecodable_infos ws m a ≡ (undecodable_ops ws (a + 3) (word ws (a + 2)) || undecodable_infos ws (m - 1) (next_info ws a))
unfolding undecodable_infos
undecodable_step ws m a h = ap (λ (k : ℕ). undecodable_infos ws k a) (one_less m h)

-- ---- bounds that the layout gives

pub count_small : (ws : List ℕ) (a : ℕ) → T (info_fits ws a) → word ws (a + 2) ≤ 255
unfolding info_fits
count_small ws a h = leb→le (word ws (a + 2)) 255 (search (and_l, and_r))

-- an info has at most 768 words
pub info_bound : (ws : List ℕ) (a m : ℕ) → T (info_fits ws a) → 0 < m → a + 768 * m ≤ 24580 → next_info ws a + 768 * (m - 1) ≤ 24580
info_bound ws a m h k b = omega (arith, count_small ws a h)

pub layout_is : (ws : List ℕ) → 1 ≤ info_count ws → info_count ws ≤ 32 → infos_fit ws (info_count ws) 4 ≡ x64_layout ws
unfolding x64_layout
layout_is ws h k = rw (le-leb 1 (info_count ws) h, le-leb (info_count ws) 32 k)

pub layout_few : (ws : List ℕ) → T (x64_layout ws) → info_count ws ≤ 32
unfolding x64_layout
layout_few ws h = leb→le (info_count ws) 32 (search (and_l, and_r))

-- each of m infos from word a on fits
info_in : (ws : List ℕ) (m a k : ℕ) → T (infos_fit ws m a) → k < m → T (info_fits ws (info_from ws a k))
unfolding infos_fit info_from
info_in ws zero a k f h = absurd (omega arith)
info_in ws (suc m) a zero f h = and_l (info_fits ws a) _ f
info_in ws (suc m) a (suc k) f h = info_in ws m (next_info ws a) k (and_r (info_fits ws a) _ f) (omega arith)

pub info_few : (ws : List ℕ) (k : ℕ) → T (x64_layout ws) → k < info_count ws → word ws (info_at ws k + 2) ≤ 255
info_few ws k l h = count_small ws (info_at ws k) (info_in ws (info_count ws) 4 k (layout_infos ws l) h)

-- ---- of two rows, one after the other

pub run_append : {A : Type 0} (f : ℕ → Op → List A) (S : ℕ) (xs ys : List Op) → run f S (xs ++ ys) ≡ run f S xs ++ run f (S + growths xs) ys
unfolding run tally
run_append f S [] ys = let e : S + 0 ≡ S = omega arith in rw e
run_append f S (x ∷ xs) ys = rw (run_append f (S + growth_of x) xs ys, append_assoc (f S x) (run f (S + growth_of x) xs) _, add_assoc S (growth_of x) (growths xs))

pub reaches_append : (S : ℕ) (xs ys : List Op) → T (reaches S (xs ++ ys)) → T (reaches S xs) × T (reaches (S + growths xs) ys)
unfolding reaches tally
reaches_append S [] ys h = let e : S + 0 ≡ S = omega arith in (tt, rw e h)
reaches_append S (x ∷ xs) ys h =
    let r = reaches_append (S + growth_of x) xs ys (and_r (within S x) _ h) in
    (both (within S x) _ (and_l (within S x) _ h) r.0, rw (← add_assoc S (growth_of x) (growths xs)) r.1)

-- a total that is in reach stays below 2^31
pub reaches_small : (S : ℕ) (os : List Op) → S < 2 ^ 31 → T (reaches S os) → S + growths os < 2 ^ 31
unfolding reaches tally
reaches_small S [] k h = omega arith
reaches_small S (o ∷ os) k h =
    let w : T (within S o) = and_l (within S o) _ h in
    let l : S + growth_of o < 2 ^ 31 = ltb→lt (S + growth_of o) (2 ^ 31) (and_r (ltb (value_of o) (2 ^ 31)) _ w) in
    omega (arith, reaches_small (S + growth_of o) os l (and_r (within S o) _ h))

-- ---- refusal 6: the two tests of the code decide what document 01 asks of every printed place, where the layout holds

-- the frame offset that an operation holds keeps its range
unfoldable pub offset_ok : Op → Bool
offset_ok (PushNonVolatile r) = true
offset_ok (Alloc v) = true
offset_ok (SaveRsp r v) = true
offset_ok (SaveFp r v b) = leb b.offset 240
offset_ok (SetFpRegister b) = leb b.offset 240
offset_ok (PushMachineFrame code) = true
offset_ok Other = true
offset_ok Undecodable = true

places_inside : (S : ℕ) (o : Op) → S < 2 ^ 31 → T (offset_ok o) → value_of o < 2 ^ 31 → S + growth_of o < 2 ^ 31 → all inside (printed S o) ≡ true
unfolding printed value_of growth_of offset_ok inside
places_inside S (PushNonVolatile r) h w v g = rw (lt-ltb (S + 8) (2 ^ 31) g)
places_inside S (Alloc n) h w v g = refl
places_inside S (SaveRsp r n) h w v g = rw (difference_inside S n h v)
places_inside S (SaveFp r n b) h w v g = let k : b.offset ≤ 240 = leb→le b.offset 240 w in rw (difference_inside n b.offset v (omega arith))
places_inside S (SetFpRegister b) h w v g = let k : b.offset ≤ 240 = leb→le b.offset 240 w in rw (difference_inside S b.offset h (omega arith))
places_inside S (PushMachineFrame true) h w v g = rw (lt-ltb (S + 16) (2 ^ 31) (omega arith), lt-ltb (S + 40) (2 ^ 31) (omega arith))
places_inside S (PushMachineFrame false) h w v g = rw (lt-ltb (S + 16) (2 ^ 31) (omega arith), lt-ltb (S + 40) (2 ^ 31) (omega arith))
places_inside S Other h w v g = refl
places_inside S Undecodable h w v g = refl

pub reach_is : (S : ℕ) (os : List Op) → S < 2 ^ 31 → T (all offset_ok os) → reaches S os ≡ in_reach S os
unfolding reaches in_reach inside
reach_is S [] h w = refl
reach_is S (o ∷ os) h w = go (ltb (value_of o) (2 ^ 31)) (ltb (S + growth_of o) (2 ^ 31)) (ltb→lt (value_of o) (2 ^ 31)) (ltb→lt (S + growth_of o) (2 ^ 31))
    (λ k. reach_is (S + growth_of o) os k (and_r (offset_ok o) _ w))
  where
    go : (a b : Bool) → (T a → value_of o < 2 ^ 31) → (T b → S + growth_of o < 2 ^ 31) → (S + growth_of o < 2 ^ 31 → reaches (S + growth_of o) os ≡ in_reach (S + growth_of o) os)
        → ((a && b) && reaches (S + growth_of o) os) ≡ ((a && (b && all inside (printed S o))) && in_reach (S + growth_of o) os)
    go true true p q r = rw (places_inside S o h (and_l (offset_ok o) _ w) (p tt) (q tt)) (r (q tt))
    go true false p q r = refl
    go false b p q r = refl

of_ok : (b : Base) (k r v : ℕ) → T (leb b.offset 240) → T (offset_ok (op_of b k r v))
unfolding op_of offset_ok
of_ok b k r v h =
    let by = either offset_ok in
    by (eqb k 1) (PushNonVolatile r) _ tt (by (eqb k 2) (Alloc v) _ tt (by (eqb k 3) (SaveRsp r v) _ tt (by (eqb k 4) (SaveFp r v b) _ h
    (by (eqb k 5) (SetFpRegister b) _ h (by (eqb k 6) (PushMachineFrame (eqb v 1)) _ tt (by (eqb k 8) Undecodable Other tt tt))))))

ops_ok : (ws : List ℕ) (b : Base) (a n : ℕ) → T (leb b.offset 240) → T (all offset_ok (stored ws b a n))
unfolding stored
ops_ok ws b a zero h = tt
ops_ok ws b a (suc n) h = both (offset_ok (op_of b _ _ _)) _ (of_ok b _ _ _ h) (ops_ok ws b (a + 3) n h)

all_back : (p : Op → Bool) (os : List Op) → T (all p os) → T (all p (reverse os))
all_back p [] h = tt
all_back p (o ∷ os) h =
    rw (reverse-cons o os) (all_append p (reverse os) (o ∷ []) (all_back p os (and_r (p o) _ h)) (both (p o) true (and_l (p o) _ h) tt))

infos_ok : (ws : List ℕ) (m a : ℕ) → T (infos_fit ws m a) → T (all offset_ok (in_order (infos ws m a)))
unfolding infos_fit info_fits infos in_order
infos_ok ws zero a h = tt
infos_ok ws (suc m) a h =
    all_append offset_ok (in_order (infos ws m (next_info ws a))) _ (infos_ok ws m (next_info ws a) (and_r (info_fits ws a) _ h))
    (all_back offset_ok _ (ops_ok ws (base_at ws a) (a + 3) (word ws (a + 2)) (search (and_l, and_r))))

pub chain_ok : (ws : List ℕ) → T (x64_layout ws) → T (all offset_ok (chain ws))
unfolding chain
chain_ok ws h = infos_ok ws (info_count ws) 4 (layout_infos ws h)

pub chain_reach : (ws : List ℕ) → T (x64_layout ws) → reaches 8 (chain ws) ≡ in_reach 8 (chain ws)
chain_reach ws h = reach_is 8 (chain ws) (omega arith) (chain_ok ws h)

-- refusals 6 and 7
unfoldable pub chain_refusal : List ℕ → Option Refusal
chain_refusal ws = cond (in_reach 8 (chain ws)) (cond (ltb 1 (set_count (chain ws))) (Some Frame) None) (Some Reach)

-- a chain that refuses nothing is in reach
pub chain_none : (ws : List ℕ) → T (x64_layout ws) → chain_refusal ws ≡ None → T (reaches 8 (chain ws))
unfolding chain_refusal
chain_none ws l h = rw (chain_reach ws l) (go (in_reach 8 (chain ws)) (ltb 1 (set_count (chain ws))) h)
  where
    go : (b d : Bool) → ◌≡◌ {A = Option Refusal} (cond b (cond d (Some Frame) None) (Some Reach)) None → T b
    go true d k = tt
    go false d k = cc

-- ---- what becomes of an entry, as the code asks it

module _ (limit : ℕ) (ws : List ℕ) where
  pub judged_broken : x64_layout ws ≡ false → x64_judged limit ws ≡ Err Layout
  unfolding x64_judged
  judged_broken l = rw l

  module _ (l : T (x64_layout ws)) where
    pub judged_skipped : x64_skipped limit ws ≡ true → x64_judged limit ws ≡ Ok Skip
    unfolding x64_judged
    judged_skipped s = rw (is_true (x64_layout ws) l, s)

    pub judged_long : x64_skipped limit ws ≡ false → limit < info_count ws → x64_judged limit ws ≡ Err Chain
    unfolding x64_judged x64_reach
    judged_long s k = rw (is_true (x64_layout ws) l, s, lt-ltb limit (info_count ws) k)

    pub judged_chain : x64_skipped limit ws ≡ false → info_count ws ≤ limit → x64_judged limit ws ≡ reached (chain_refusal ws)
    unfolding x64_judged x64_reach chain_refusal
    judged_chain s k = rw (is_true (x64_layout ws) l, s, le-ltb limit (info_count ws) k)

-- ---- a rule that the code hands to `lines` is written as the text has it

pub saved_rule : (n : Bytes) (z : ℤ) → rule_text (rule n (at_cfa_minus z)) ≡ saved_text n z
unfolding rule_text form_text saved_text
saved_rule n z = refl

pub framed_rule : (n r : Bytes) (z : ℤ) → rule_text (rule n (at_register_plus r z)) ≡ framed_text n r z
unfolding rule_text form_text framed_text
framed_rule n r z = row (ascii " " ++ n ++ ascii ": ") r (ascii " ") (signed z) (ascii " + ^")

pub cfa_rule_lem : (r : Bytes) (z : ℤ) → rule_text (rule cfa (register_plus r z)) ≡ cfa_text r z
unfolding rule_text form_text cfa_text
cfa_rule_lem r z = row (ascii " .cfa: ") r (ascii " ") (signed z) (ascii " +")
