-- What is true of every decoded body (document 02, request 1): it keeps the x64 layout, so that refusal 4 never meets it; the words that a kind
-- does not use are 0; it has at most 24,580 words; and what stood in the room does not matter.
use Rattle.std.specs.Prelude.{◌≡◌, refl, Bool, false, cond, ◌&&◌, ◌||◌, Option, Some, None, Result, Ok, Err, get_or, take, drop, eqb, ltb, leb}
use Rattle.std.proofs.Common.{ap, arith, length-append, get_or-append-add, ltb→lt, lt→ltb, leb→le, le→leb}
use Rattle.std.proofs.Math.Bool.{true}
use mathlib.Core.List.{List, [], ◌∷◌, ◌++◌, append_assoc, append-nil}
use Prim.Native.Nat.{ℕ, zero, suc, ◌+◌, ◌-◌, ◌*◌, ◌/◌, ◌%◌, ◌≤◌, ◌<◌}
use Rattle.std.proofs.Math.ListN.{length}
use Rattle.std.proofs.Math.Seq.{get_or-append_seam}
use Rattle.std.proofs.Math.Dec.{T, eqb_refl}
use Rattle.text.specs.Tests.{is_true, and_l, and_r, both, either, all}
use Rattle.entry.specs.Entry.{Judged, word}
use Rattle.entry.specs.Entry.Laws.{reached}
use Rattle.entry.specs.declared.Fate.TheVariants.{Skip}
use Rattle.refusal.specs.declared.Refusal.{Refusal}
use Rattle.refusal.specs.declared.Refusal.TheVariants.{Layout, Chain, Reach, Frame}
use Rattle.refusal.specs.Refusal.{answer_number}
use Rattle.x64.specs.X64.{op_fits, ops_fit, info_fits, infos_fit, x64_layout, x64_skipped, x64_reach, x64_judged, in_reach, set_count, chain}
use Rattle.fill.specs.Fill.{Fills}
use Rattle.fill.specs.Fill.Laws.{count, filled_alike}
use Rattle.unwind_info.specs.declared.Operation.{Operation}
use Rattle.unwind_info.specs.declared.Operation.TheVariants.{Alloc, SaveRsp, SaveFp, PushMachineFrame, Undecodable}
use Rattle.unwind_info.specs.declared.UnwindCode.{UnwindCode}
use Rattle.unwind_info.specs.UnwindInfo.{byte, slot_at, long_at, slot_count, frame_register, frame_offset, part_size, code, slots_of, operation_of, save}
use Rattle.unwind_info.specs.UnwindInfo.{alloc_large, push_machframe, codes, code_at, within, codes_in, codes_of, kind_of, register_of, value_of, words_of}
use Rattle.unwind_info.specs.UnwindInfo.{op_words, info_words, parts_in, parts, infos_words, x64_body}
use Rattle.unwind_info.specs.UnwindInfo.{first_refused, count_number, x64_number, decoded}
use Rattle.unwind_info.specs.Index.{codes_few, ops_length, info_length, zero_both}

-- ---- bytes

-- every number is one of a byte, as in any slice of bytes
abbrev pub are_bytes : List ℕ → Bool
are_bytes bs = all (λ b. ltb b 256) bs

pub byte_small : (bs : List ℕ) (i : ℕ) → T (are_bytes bs) → byte bs i < 256
byte_small [] i h = omega arith
byte_small (b ∷ bs) zero h = ltb→lt b 256 (and_l (ltb b 256) _ h)
byte_small (b ∷ bs) (suc i) h = byte_small bs i (and_r (ltb b 256) _ h)

pub drop_bytes : (n : ℕ) (bs : List ℕ) → T (are_bytes bs) → T (are_bytes (drop n bs))
drop_bytes zero bs h = h
drop_bytes (suc n) [] h = tt
drop_bytes (suc n) (b ∷ bs) h = drop_bytes n bs (and_r (ltb b 256) _ h)

-- ---- a test of every operation, kind, register and value

-- of n operations from word a on
unfoldable pub ops_are : (ℕ → ℕ → ℕ → Bool) → List ℕ → ℕ → ℕ → Bool
ops_are p ws a zero = true
ops_are p ws a (suc n) = p (word ws a) (word ws (a + 1)) (word ws (a + 2)) && ops_are p ws (a + 3) n

-- of m infos from word a on
unfoldable pub infos_are : (ℕ → ℕ → ℕ → Bool) → List ℕ → ℕ → ℕ → Bool
infos_are p ws zero a = true
infos_are p ws (suc m) a = ops_are p ws (a + 3) (word ws (a + 2)) && infos_are p ws m (a + 3 + 3 * word ws (a + 2))

-- a kind's unused words are 0: of a push the value, of an allocation and a machine frame the register, of 5, 7 and 8 both
unfoldable pub unused_zero : ℕ → ℕ → ℕ → Bool
unused_zero k r v =
    cond (eqb k 1) (eqb v 0) (cond (eqb k 2 || eqb k 6) (eqb r 0) (cond (eqb k 3 || eqb k 4) true (eqb r 0 && eqb v 0)))

-- ---- of one code

module _ (p : ℕ → ℕ → ℕ → Bool) where
  abbrev pub test : Operation → Bool
  test o = p (kind_of o) (register_of o) (value_of o)

  abbrev pub test_code : Option UnwindCode → Bool
  test_code c = test (operation_of c)

  -- an entry of a table that passes throughout passes
  entry_passes : (cs : List (Option UnwindCode)) (c : ℕ) → T (test Undecodable) → T (all test_code cs) → T (test_code (get_or cs c None))
  entry_passes [] c d h = d
  entry_passes (u ∷ cs) zero d h = and_l (test_code u) _ h
  entry_passes (u ∷ cs) (suc c) d h = entry_passes cs c d (and_r (test_code u) _ h)

  -- where the page's table passes for every info below 16, the operations of a part of bytes pass
  abbrev pub Passes : Type 0
  Passes = (f i near far : ℕ) → i < 16 → T (all test_code (codes f i near far))

  code_passes : T (test Undecodable) → Passes → (f : ℕ) (bs : List ℕ) → T (are_bytes bs) → T (test_code (code_at f bs))
  unfolding code_at
  code_passes d t f bs h =
      entry_passes (codes f (byte bs 1 / 16) (slot_at bs 2) (long_at bs 2)) (byte bs 1 % 16) d
      (t f (byte bs 1 / 16) (slot_at bs 2) (long_at bs 2) (omega (arith, byte_small bs 1 h)))

  pub codes_pass : T (test Undecodable) → Passes → (k f n : ℕ) (bs : List ℕ) → T (are_bytes bs) → T (all test (codes_in k f n bs))
  unfolding codes_in
  codes_pass d t zero f n bs h = tt
  codes_pass d t (suc k) f zero bs h = tt
  codes_pass d t (suc k) f (suc n) bs h =
      either (all test) (within (suc n) c) (operation_of c ∷ codes_in k f (suc n - slots_of c) (drop (2 * slots_of c) bs)) (Undecodable ∷ [])
      (both (test_code c) _ (code_passes d t f bs h) (codes_pass d t k f (suc n - slots_of c) (drop (2 * slots_of c) bs) (drop_bytes (2 * slots_of c) bs h)))
      (both (test Undecodable) true d tt)
    where
      c : Option UnwindCode
      c = code_at f bs

-- ---- words behind others

module _ (front : List ℕ) (x y z : ℕ) (rest : List ℕ) where
  first_word : word (front ++ (x ∷ y ∷ z ∷ rest)) (length front) ≡ x
  first_word = get_or-append_seam front x (y ∷ z ∷ rest) 0

  second_word : word (front ++ (x ∷ y ∷ z ∷ rest)) (length front + 1) ≡ y
  second_word = get_or-append-add front (x ∷ y ∷ z ∷ rest) 1 0

  third_word : word (front ++ (x ∷ y ∷ z ∷ rest)) (length front + 2) ≡ z
  third_word = get_or-append-add front (x ∷ y ∷ z ∷ rest) 2 0

  -- a test of the words behind these three
  behind_three : (P : List ℕ → ℕ → Type 0) → P ((front ++ (x ∷ y ∷ z ∷ [])) ++ rest) (length (front ++ (x ∷ y ∷ z ∷ [])))
      → P (front ++ (x ∷ y ∷ z ∷ rest)) (length front + 3)
  behind_three P h = rw (append_assoc front (x ∷ y ∷ z ∷ []) rest, length-append front (x ∷ y ∷ z ∷ [])) at h

module _ (p : ℕ → ℕ → ℕ → Bool) where
  -- the words of operations that pass, wherever they stand
  ops_pass : (front rest : List ℕ) (os : List Operation) → T (all (test p) os) → T (ops_are p (front ++ (op_words os ++ rest)) (length front) (length os))
  unfolding ops_are op_words
  ops_pass front rest [] h = tt
  ops_pass front rest (o ∷ os) h =
      let k = kind_of o in
      let r = register_of o in
      let v = value_of o in
      rw (
        first_word front k r v (op_words os ++ rest),
        second_word front k r v (op_words os ++ rest),
        third_word front k r v (op_words os ++ rest),
      )
      (both (test p o) _ (and_l (test p o) _ h)
      (behind_three front k r v (op_words os ++ rest) (λ ws a. T (ops_are p ws a (length os)))
      (ops_pass (front ++ words_of o) rest os (and_r (test p o) _ h))))

  -- those of an info
  info_passes : (front rest q : List ℕ) → T (all (test p) (codes_of q))
      → T (ops_are p (front ++ (info_words q ++ rest)) (length front + 3) (word (front ++ (info_words q ++ rest)) (length front + 2)))
  unfolding info_words
  info_passes front rest q h =
      let n = length (codes_of q) in
      let l = op_words (codes_of q) ++ rest in
      rw (third_word front (frame_register q) (frame_offset q) n l)
      (behind_three front (frame_register q) (frame_offset q) n l (λ ws a. T (ops_are p ws a n))
      (ops_pass (front ++ (frame_register q ∷ frame_offset q ∷ n ∷ [])) rest (codes_of q) h))

-- ---- the infos one after the other

-- a test of the words behind an info
behind_info : (front rest q : List ℕ) (P : List ℕ → ℕ → Type 0) → P ((front ++ info_words q) ++ rest) (length (front ++ info_words q))
    → P (front ++ (info_words q ++ rest)) (length front + 3 + 3 * word (front ++ (info_words q ++ rest)) (length front + 2))
unfolding info_words
behind_info front rest q P h =
    let n = length (codes_of q) in
    let e : length (front ++ info_words q) ≡ length front + 3 + 3 * n = omega (arith, length-append front (info_words q), ops_length (codes_of q)) in
    rw (third_word front (frame_register q) (frame_offset q) n (op_words (codes_of q) ++ rest)) (rw (append_assoc front (info_words q) rest, e) at h)

parts_bytes : (k : ℕ) (bs : List ℕ) → T (are_bytes bs) → T (all are_bytes (parts_in k bs))
unfolding parts_in
parts_bytes zero bs h = tt
parts_bytes (suc k) [] h = tt
parts_bytes (suc k) (b ∷ bs) h =
    both (are_bytes (b ∷ bs)) _ h (parts_bytes k (drop (part_size (b ∷ bs)) (b ∷ bs)) (drop_bytes (part_size (b ∷ bs)) (b ∷ bs) h))

module _ (p : ℕ → ℕ → ℕ → Bool) (d : T (test p Undecodable)) (t : Passes p) where
  part_passes : (q : List ℕ) → T (are_bytes q) → T (all (test p) (codes_of q))
  unfolding codes_of
  part_passes q h = codes_pass p d t (slot_count q) (frame_register q) (slot_count q) (drop 4 q) (drop_bytes 4 q h)

  infos_pass : (front : List ℕ) (ps : List (List ℕ)) → T (all are_bytes ps) → T (infos_are p (front ++ infos_words ps) (length ps) (length front))
  unfolding infos_are infos_words
  infos_pass front [] h = tt
  infos_pass front (q ∷ ps) h =
      both (ops_are p (front ++ (info_words q ++ infos_words ps)) (length front + 3) (word (front ++ (info_words q ++ infos_words ps)) (length front + 2))) _
      (info_passes p front (infos_words ps) q (part_passes q (and_l (are_bytes q) _ h)))
      (behind_info front (infos_words ps) q (λ ws a. T (infos_are p ws (length ps) a)) (infos_pass (front ++ info_words q) ps (and_r (are_bytes q) _ h)))

  -- every operation of a decoded body passes
  pub body_passes : (b e a : ℕ) (bs : List ℕ) → T (are_bytes bs) → T (infos_are p (x64_body b e a bs) (length (parts bs)) 4)
  unfolding x64_body
  body_passes b e a bs h = infos_pass (b ∷ e ∷ a ∷ length (parts bs) ∷ []) (parts bs) (parts_bytes (length bs) bs h)

-- ---- unused words

unused_table : Passes unused_zero
unfolding codes unused_zero
unused_table f i near far h =
    both (test_code unused_zero (alloc_large i near far)) _ alloc (both (test_code unused_zero (code 2 (save f i (8 * near)))) _ (kept (8 * near))
    (both (test_code unused_zero (code 3 (save f i far))) _ (kept far) (both (test_code unused_zero (push_machframe i)) true frame tt)))
  where
    alloc : T (test_code unused_zero (alloc_large i near far))
    alloc =
        either (test_code unused_zero) (eqb i 0) (code 2 (Alloc (8 * near))) (cond (eqb i 1) (code 3 (Alloc far)) None) tt
        (either (test_code unused_zero) (eqb i 1) (code 3 (Alloc far)) None tt tt)

    kept : (v : ℕ) → T (test unused_zero (save f i v))
    kept v = either (test unused_zero) (eqb f 0) (SaveRsp i v) (SaveFp i v) tt tt

    frame : T (test_code unused_zero (push_machframe i))
    frame = either (test_code unused_zero) (leb i 1) (code 1 (PushMachineFrame (eqb i 1))) None tt tt

-- words that a kind does not use are 0
pub unused_zero_lem : (b e a : ℕ) (bs : List ℕ) → T (are_bytes bs) → T (infos_are unused_zero (x64_body b e a bs) (length (parts bs)) 4)
unfolding unused_zero
unused_zero_lem b e a bs h = body_passes unused_zero tt unused_table b e a bs h

-- ---- the layout

fits_table : Passes op_fits
unfolding codes op_fits
fits_table f i near far h =
    both (ltb i 16) _ small (both (test_code op_fits (alloc_large i near far)) _ alloc (both (test_code op_fits (code 2 (save f i (8 * near)))) _ (kept (8 * near))
    (both (test_code op_fits (code 3 (save f i far))) _ (kept far) (both (test_code op_fits (push_machframe i)) true (frame (leb i 1) (eqb i 1)) tt))))
  where
    small : T (ltb i 16)
    small = lt→ltb i 16 h

    alloc : T (test_code op_fits (alloc_large i near far))
    alloc =
        either (test_code op_fits) (eqb i 0) (code 2 (Alloc (8 * near))) (cond (eqb i 1) (code 3 (Alloc far)) None) tt
        (either (test_code op_fits) (eqb i 1) (code 3 (Alloc far)) None tt tt)

    kept : (v : ℕ) → T (test op_fits (save f i v))
    kept v = either (test op_fits) (eqb f 0) (SaveRsp i v) (SaveFp i v) small small

    frame : (t e : Bool) → T (test_code op_fits (cond t (code 1 (PushMachineFrame e)) None))
    frame true true = tt
    frame true false = tt
    frame false e = tt

fit_are : (ws : List ℕ) (a n : ℕ) → ops_fit ws a n ≡ ops_are op_fits ws a n
unfolding ops_fit ops_are
fit_are ws a zero = refl
fit_are ws a (suc n) = ap (λ (t : Bool). op_fits (word ws a) (word ws (a + 1)) (word ws (a + 2)) && t) (fit_are ws (a + 3) n)

undecodable_fits : T (test op_fits Undecodable)
unfolding op_fits
undecodable_fits = tt

few_codes : (q : List ℕ) → length (codes_of q) ≤ slot_count q
unfolding codes_of
few_codes q = codes_few (slot_count q) (frame_register q) (slot_count q) (drop 4 q)

-- an info keeps its ranges: its frame register and offset are parts of a byte, and it has no more operations than slots
info_fits_lem : (front rest q : List ℕ) → T (are_bytes q) → T (info_fits (front ++ (info_words q ++ rest)) (length front))
unfolding info_fits info_words
info_fits_lem front rest q h =
    let n = length (codes_of q) in
    let l = op_words (codes_of q) ++ rest in
    let ws = front ++ (frame_register q ∷ frame_offset q ∷ n ∷ l) in
    let few : n ≤ 255 = omega (arith, few_codes q, byte_small q 2 h) in
    rw (first_word front (frame_register q) (frame_offset q) n l, second_word front (frame_register q) (frame_offset q) n l)
    (both (ltb (frame_register q) 16 && (leb (frame_offset q) 240 && leb (word ws (length front + 2)) 255)) _
    (both (ltb (frame_register q) 16) _ (lt→ltb (frame_register q) 16 (omega arith))
    (both (leb (frame_offset q) 240) _ (le→leb (frame_offset q) 240 (omega (arith, byte_small q 3 h)))
    (rw (third_word front (frame_register q) (frame_offset q) n l) (le→leb n 255 few))))
    (rw (fit_are ws (length front + 3) (word ws (length front + 2))) (info_passes op_fits front rest q (part_passes op_fits undecodable_fits fits_table q h))))

infos_fit_lem : (front : List ℕ) (ps : List (List ℕ)) → T (all are_bytes ps) → T (infos_fit (front ++ infos_words ps) (length ps) (length front))
unfolding infos_fit infos_words
infos_fit_lem front [] h = rw (append-nil front) (eqb_refl (length front))
infos_fit_lem front (q ∷ ps) h =
    both (info_fits (front ++ (info_words q ++ infos_words ps)) (length front)) _ (info_fits_lem front (infos_words ps) q (and_l (are_bytes q) _ h))
    (behind_info front (infos_words ps) q (λ ws a. T (infos_fit ws (length ps) a)) (infos_fit_lem (front ++ info_words q) ps (and_r (are_bytes q) _ h)))

-- what no refusal up to 4 says: 1 to 32 parts
number_parts : (bs : List ℕ) → x64_number bs ≡ 0 → T (leb 1 (length (parts bs)) && leb (length (parts bs)) 32)
unfolding x64_number
number_parts bs e = go (leb 1 (length (parts bs)) && leb (length (parts bs)) 32) (zero_both (first_refused (parts bs)) (count_number (length (parts bs))) e).1
  where
    go : (t : Bool) → ◌≡◌ {A = ℕ} (cond t 0 4) 0 → T t
    go true e = tt
    go false e = absurd (omega (arith, e))

-- a decoded body keeps the x64 layout
pub layout_kept : (b e a : ℕ) (bs : List ℕ) → T (are_bytes bs) → x64_number bs ≡ 0 → T (x64_layout (x64_body b e a bs))
unfolding x64_layout x64_body
layout_kept b e a bs h z =
    both (leb 1 (length (parts bs)) && leb (length (parts bs)) 32) _ (number_parts bs z)
    (infos_fit_lem (b ∷ e ∷ a ∷ length (parts bs) ∷ []) (parts bs) (parts_bytes (length bs) bs h))

-- so refusal 4 never meets it
pub never_refused_4 : (limit b e a : ℕ) (bs : List ℕ) → T (are_bytes bs) → x64_number bs ≡ 0 → x64_judged limit (x64_body b e a bs) ≡ Err Layout → ⊥
unfolding x64_judged x64_reach
never_refused_4 limit b e a bs h z q =
    let ws = x64_body b e a bs in
    go (x64_skipped limit ws) (ltb limit (word ws 3)) (in_reach 8 (chain ws)) (ltb 1 (set_count (chain ws))) (rw (is_true (x64_layout ws) (layout_kept b e a bs h z)) at q)
  where
    go : (s x y t : Bool) → ◌≡◌ {A = Judged} (cond s (Ok Skip) (reached (cond x (Some Chain) (cond y (cond t (Some Frame) None) (Some Reach))))) (Err Layout) → ⊥
    go true x y t e = cc
    go false true y t e = cc
    go false false true true e = cc
    go false false true false e = cc
    go false false false t e = cc

-- ---- the length

infos_length : (ps : List (List ℕ)) → T (all are_bytes ps) → length (infos_words ps) ≤ 768 * length ps
unfolding infos_words
infos_length [] h = omega arith
infos_length (q ∷ ps) h =
    omega (arith, length-append (info_words q) (infos_words ps), info_length q, byte_small q 2 (and_l (are_bytes q) _ h), infos_length ps (and_r (are_bytes q) _ h))

-- a body has at most 24,580 words
pub body_length : (b e a : ℕ) (bs : List ℕ) → T (are_bytes bs) → x64_number bs ≡ 0 → length (x64_body b e a bs) ≤ 24580
unfolding x64_body
body_length b e a bs h z =
    omega (arith, infos_length (parts bs) (parts_bytes (length bs) bs h), leb→le (length (parts bs)) 32 (and_r (leb 1 (length (parts bs))) _ (number_parts bs z)))

-- ---- the room

-- what stood in it does not matter
pub room_alike : (b e a : ℕ) (bs d d' c c' : List ℕ) (r s : Result ℕ Refusal) → Fills (decoded bs b e a (length d)) d d' r
    → Fills (decoded bs b e a (length c)) c c' s → length d ≡ length c
    → (answer_number r ≡ answer_number s) × ((count r ≡ count s) × (take (count r) d' ≡ take (count s) c'))
room_alike b e a bs d d' c c' r s p q same = filled_alike (decoded bs b e a (length d)) d d' c c' r s p (rw (← same) at q)
