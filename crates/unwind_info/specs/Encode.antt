-- An x64 body back to UNWIND_INFO bytes: `decoded` held to its own reading, decode (encode b) ≡ b. A body can be encoded where it has one info
-- and kinds 1 to 6 alone, words that are not used are 0, saves are relative to RSP just where there is no frame register, the frame offset is a
-- multiple of 16 and there are at most 255 slots.
use Rattle.std.specs.Prelude.{◌≡◌, Bool, true, false, cond, ◌&&◌, None, get_or, drop, eqb, ltb, leb}
use Rattle.std.proofs.Math.Path.{refl, ap}
use Rattle.std.proofs.Common.{sym, ◌∙◌, arith, drop_of_length-le, drop-cons, eqb→eq, ltb→lt, lt→ltb, leb→le}
use mathlib.Core.List.{List, [], ◌∷◌, ◌++◌, append-nil}
use Prim.Native.Nat.{ℕ, zero, suc, ◌+◌, ◌-◌, ◌*◌, ◌/◌, ◌%◌, ◌^◌, ◌≤◌, ◌<◌}
use Rattle.std.proofs.Math.ListN.{length, length-append}
use Rattle.std.proofs.Math.Seq.{drop_at}
use Rattle.std.proofs.Math.Dec.{T}
use borrow.Author.Tests.{eqb-true, le-leb, le-ltb}
use Rattle.text.specs.Tests.{and_l, and_r, both, all_append}
use Rattle.entry.specs.Entry.{word}
use Rattle.unwind_info.specs.declared.Operation.{Operation}
use Rattle.unwind_info.specs.declared.Operation.TheVariants.{PushNonVolatile, Alloc, SaveRsp, SaveFp, SetFpRegister, PushMachineFrame}
use Rattle.unwind_info.specs.UnwindInfo.{slot_at, long_at, part_size, code, save, codes, code_at, codes_in, codes_of, kind_of, register_of, value_of, op_words, info_words}
use Rattle.unwind_info.specs.UnwindInfo.{parts, infos_words, x64_body, part_number, first_refused, x64_number, decoded}
use Rattle.unwind_info.specs.Index.{parts_first, parts_none}
use Rattle.unwind_info.specs.Words.{are_bytes}

-- ---- bytes of operations

-- a slot with a code: code offset 0, operation code c and info i
abbrev pub code_bytes : ℕ → ℕ → List ℕ
code_bytes c i = 0 ∷ (c + 16 * i) ∷ []

-- a number in one slot, and in two, the low byte first
abbrev pub slot_bytes : ℕ → List ℕ
slot_bytes v = v % 256 ∷ v / 256 ∷ []

abbrev pub long_bytes : ℕ → List ℕ
long_bytes v = slot_bytes (v % 65536) ++ slot_bytes (v / 65536)

-- a multiple of 8 that one slot holds in units of 8
abbrev pub in_units : ℕ → Bool
in_units v = eqb (v % 8) 0 && ltb v 524288

unfoldable pub alloc_bytes : ℕ → List ℕ
alloc_bytes v = cond (in_units v) (cond (leb 8 v && leb v 128) (code_bytes 2 (v / 8 - 1)) (code_bytes 1 0 ++ slot_bytes (v / 8))) (code_bytes 1 1 ++ long_bytes v)

unfoldable pub save_bytes : ℕ → ℕ → List ℕ
save_bytes r v = cond (in_units v) (code_bytes 4 r ++ slot_bytes (v / 8)) (code_bytes 5 r ++ long_bytes v)

-- kind, register, value
unfoldable pub op_bytes : ℕ → ℕ → ℕ → List ℕ
op_bytes k r v =
    cond (eqb k 1) (code_bytes 0 r) (cond (eqb k 2) (alloc_bytes v) (cond (eqb k 5) (code_bytes 3 0) (cond (eqb k 6) (code_bytes 10 v) (save_bytes r v))))

-- whether it can be encoded under frame register f
unfoldable pub op_encodes : ℕ → ℕ → ℕ → ℕ → Bool
op_encodes f k r v =
    cond (eqb k 1) (ltb r 16 && eqb v 0) (cond (eqb k 2) (eqb r 0 && ltb v (2 ^ 32)) (cond (eqb k 5) (eqb r 0 && eqb v 0)
    (cond (eqb k 6) (eqb r 0 && leb v 1) (eqb k (kind_of (save f r v)) && (ltb r 16 && ltb v (2 ^ 32))))))

-- ---- one operation

-- bytes that are read as an operation, whatever follows
record Encoded (f : ℕ) (o : Operation) (bytes : List ℕ) : Type 0 where
  pub slots : ℕ
  pub some : 1 ≤ slots
  pub size : length bytes ≡ 2 * slots
  pub is : (rest : List ℕ) → code_at f (bytes ++ rest) ≡ code slots o

-- the same of its words
record Read (f k r v : ℕ) (bytes : List ℕ) : Type 0 where
  pub operation : Operation
  pub kind : kind_of operation ≡ k
  pub register : register_of operation ≡ r
  pub value : value_of operation ≡ v
  pub encoded : Encoded f operation bytes

-- operation code and info are read as they were put
code_read : (f c i : ℕ) (rest : List ℕ) → c < 16
    → code_at f (0 ∷ (c + 16 * i) ∷ rest) ≡ get_or (codes f i (slot_at (0 ∷ (c + 16 * i) ∷ rest) 2) (long_at (0 ∷ (c + 16 * i) ∷ rest) 2)) c None
unfolding code_at
code_read f c i rest h =
    let m : (c + 16 * i) % 16 ≡ c = omega arith in
    let d : (c + 16 * i) / 16 ≡ i = omega arith in
    rw (m, d)

slot_read : (x y v : ℕ) (rest : List ℕ) → slot_at (x ∷ y ∷ slot_bytes v ++ rest) 2 ≡ v
unfolding slot_at
slot_read x y v rest = omega arith

long_read : (x y v : ℕ) (rest : List ℕ) → long_at (x ∷ y ∷ long_bytes v ++ rest) 2 ≡ v
unfolding long_at slot_at
long_read x y v rest = omega arith

push_encoded : (f r : ℕ) → Encoded f (PushNonVolatile r) (code_bytes 0 r)
unfolding codes
push_encoded f r = record { slots = 1; some = omega arith; size = refl; is = λ rest. code_read f 0 r rest (omega arith) }

set_encoded : (f : ℕ) → Encoded f SetFpRegister (code_bytes 3 0)
unfolding codes
set_encoded f = record { slots = 1; some = omega arith; size = refl; is = λ rest. code_read f 3 0 rest (omega arith) }

frame_encoded : (f v : ℕ) → v ≤ 1 → Encoded f (PushMachineFrame (eqb v 1)) (code_bytes 10 v)
unfolding codes
frame_encoded f v h = record { slots = 1; some = omega arith; size = refl; is = λ rest. code_read f 10 v rest (omega arith) ∙ rw (le-leb v 1 h) }

units : (v : ℕ) → T (in_units v) → (v % 8 ≡ 0) × (v < 524288)
units v h = (eqb→eq (v % 8) 0 (and_l (eqb (v % 8) 0) _ h), ltb→lt v 524288 (and_r (eqb (v % 8) 0) _ h))

alloc_encoded : (f v : ℕ) → Encoded f (Alloc v) (alloc_bytes v)
unfolding alloc_bytes codes
alloc_encoded f v = go (in_units v) (leb 8 v && leb v 128) refl refl
  where
    small : T (leb 8 v && leb v 128) → v % 8 ≡ 0 → Encoded f (Alloc v) (code_bytes 2 (v / 8 - 1))
    small h m =
        let low = leb→le 8 v (and_l (leb 8 v) _ h) in
        let high = leb→le v 128 (and_r (leb 8 v) _ h) in
        let e : 8 * (v / 8 - 1) + 8 ≡ v = omega arith in
        record { slots = 1; some = omega arith; size = refl; is = λ rest. code_read f 2 (v / 8 - 1) rest (omega arith) ∙ ap (λ (n : ℕ). code 1 (Alloc n)) e }

    near : v % 8 ≡ 0 → Encoded f (Alloc v) (code_bytes 1 0 ++ slot_bytes (v / 8))
    near m =
        let e : 8 * (v / 8) ≡ v = omega arith in
        record {
          slots = 2;
          some = omega arith;
          size = refl;
          is = λ rest. code_read f 1 0 (slot_bytes (v / 8) ++ rest) (omega arith) ∙ ap (λ (n : ℕ). code 2 (Alloc (8 * n))) (slot_read 0 1 (v / 8) rest) ∙ ap (λ (n : ℕ). code 2 (Alloc n)) e;
        }

    far : Encoded f (Alloc v) (code_bytes 1 1 ++ long_bytes v)
    far = record {
      slots = 3;
      some = omega arith;
      size = refl;
      is = λ rest. code_read f 1 1 (long_bytes v ++ rest) (omega arith) ∙ ap (λ (n : ℕ). code 3 (Alloc n)) (long_read 0 17 v rest);
    }

    go : (u s : Bool) → in_units v ≡ u → (leb 8 v && leb v 128) ≡ s
        → Encoded f (Alloc v) (cond u (cond s (code_bytes 2 (v / 8 - 1)) (code_bytes 1 0 ++ slot_bytes (v / 8))) (code_bytes 1 1 ++ long_bytes v))
    go true true e q = small (rw q tt) (units v (rw e tt)).0
    go true false e q = near (units v (rw e tt)).0
    go false s e q = far

save_encoded : (f r v : ℕ) → Encoded f (save f r v) (save_bytes r v)
unfolding save_bytes codes
save_encoded f r v = go (in_units v) refl
  where
    near : v % 8 ≡ 0 → Encoded f (save f r v) (code_bytes 4 r ++ slot_bytes (v / 8))
    near m =
        let e : 8 * (v / 8) ≡ v = omega arith in
        record {
          slots = 2;
          some = omega arith;
          size = refl;
          is = λ rest. code_read f 4 r (slot_bytes (v / 8) ++ rest) (omega arith) ∙ ap (λ (n : ℕ). code 2 (save f r (8 * n))) (slot_read 0 (4 + 16 * r) (v / 8) rest)
              ∙ ap (λ (n : ℕ). code 2 (save f r n)) e;
        }

    far : Encoded f (save f r v) (code_bytes 5 r ++ long_bytes v)
    far = record {
      slots = 3;
      some = omega arith;
      size = refl;
      is = λ rest. code_read f 5 r (long_bytes v ++ rest) (omega arith) ∙ ap (λ (n : ℕ). code 3 (save f r n)) (long_read 0 (5 + 16 * r) v rest);
    }

    go : (u : Bool) → in_units v ≡ u → Encoded f (save f r v) (cond u (code_bytes 4 r ++ slot_bytes (v / 8)) (code_bytes 5 r ++ long_bytes v))
    go true e = near (units v (rw e tt)).0
    go false e = far

-- the words of a machine frame and of a save
flag : (v : ℕ) → v ≤ 1 → cond (eqb v 1) 1 0 ≡ v
flag zero h = refl
flag (suc zero) h = refl
flag (suc (suc v)) h = absurd (omega arith)

saved : (f r v : ℕ) → (register_of (save f r v) ≡ r) × (value_of (save f r v) ≡ v)
saved f r v = go (eqb f 0)
  where
    go : (t : Bool) → (register_of (cond t (SaveRsp r v) (SaveFp r v)) ≡ r) × (value_of (cond t (SaveRsp r v) (SaveFp r v)) ≡ v)
    go true = (refl, refl)
    go false = (refl, refl)

-- every operation that can be encoded
op_encoded : (f k r v : ℕ) → T (op_encodes f k r v) → Read f k r v (op_bytes k r v)
unfolding op_encodes op_bytes
op_encoded f k r v h = go (eqb k 1) (eqb k 2) (eqb k 5) (eqb k 6) refl refl refl refl h
  where
    test : Bool → Bool → Bool → Bool → Bool
    test a b c d =
        cond a (ltb r 16 && eqb v 0) (cond b (eqb r 0 && ltb v (2 ^ 32)) (cond c (eqb r 0 && eqb v 0)
        (cond d (eqb r 0 && leb v 1) (eqb k (kind_of (save f r v)) && (ltb r 16 && ltb v (2 ^ 32))))))

    bytes : Bool → Bool → Bool → Bool → List ℕ
    bytes a b c d = cond a (code_bytes 0 r) (cond b (alloc_bytes v) (cond c (code_bytes 3 0) (cond d (code_bytes 10 v) (save_bytes r v))))

    go : (a b c d : Bool) → eqb k 1 ≡ a → eqb k 2 ≡ b → eqb k 5 ≡ c → eqb k 6 ≡ d → T (test a b c d) → Read f k r v (bytes a b c d)
    go true b c d p₁ p₂ p₅ p₆ h =
        let e : k ≡ 1 = eqb-true k 1 p₁ in
        let z : v ≡ 0 = eqb→eq v 0 (and_r (ltb r 16) _ h) in
        record { operation = PushNonVolatile r; kind = sym e; register = refl; value = sym z; encoded = push_encoded f r }
    go false true c d p₁ p₂ p₅ p₆ h =
        let e : k ≡ 2 = eqb-true k 2 p₂ in
        let z : r ≡ 0 = eqb→eq r 0 (and_l (eqb r 0) _ h) in
        record { operation = Alloc v; kind = sym e; register = sym z; value = refl; encoded = alloc_encoded f v }
    go false false true d p₁ p₂ p₅ p₆ h =
        let e : k ≡ 5 = eqb-true k 5 p₅ in
        let z : r ≡ 0 = eqb→eq r 0 (and_l (eqb r 0) _ h) in
        let y : v ≡ 0 = eqb→eq v 0 (and_r (eqb r 0) _ h) in
        record { operation = SetFpRegister; kind = sym e; register = sym z; value = sym y; encoded = set_encoded f }
    go false false false true p₁ p₂ p₅ p₆ h =
        let e : k ≡ 6 = eqb-true k 6 p₆ in
        let z : r ≡ 0 = eqb→eq r 0 (and_l (eqb r 0) _ h) in
        let l : v ≤ 1 = leb→le v 1 (and_r (eqb r 0) _ h) in
        record { operation = PushMachineFrame (eqb v 1); kind = sym e; register = sym z; value = flag v l; encoded = frame_encoded f v l }
    go false false false false p₁ p₂ p₅ p₆ h =
        let e : k ≡ kind_of (save f r v) = eqb→eq k (kind_of (save f r v)) (and_l (eqb k (kind_of (save f r v))) _ h) in
        let s = saved f r v in
        record { operation = save f r v; kind = sym e; register = s.0; value = s.1; encoded = save_encoded f r v }

-- ---- a body

-- n operations, three words each
unfoldable pub ops_bytes : ℕ → List ℕ → List ℕ
ops_bytes zero ws = []
ops_bytes (suc n) ws = op_bytes (word ws 0) (word ws 1) (word ws 2) ++ ops_bytes n (drop 3 ws)

-- there are just as many, and each can be encoded
unfoldable pub ops_encode : ℕ → ℕ → List ℕ → Bool
ops_encode f zero ws = eqb (length ws) 0
ops_encode f (suc n) ws = leb 3 (length ws) && (op_encodes f (word ws 0) (word ws 1) (word ws 2) && ops_encode f n (drop 3 ws))

-- version 1 without flags, prolog size 0, the slots, frame register and offset, the codes: words 4, 5 and 6 are the info's, its operations follow
unfoldable pub encode : List ℕ → List ℕ
encode ws = 1 ∷ 0 ∷ length (ops_bytes (word ws 6) (drop 7 ws)) / 2 ∷ (word ws 4 + word ws 5) ∷ ops_bytes (word ws 6) (drop 7 ws)

-- whether a body can be encoded
unfoldable pub encodable : List ℕ → Bool
encodable ws =
    (leb 7 (length ws) && eqb (word ws 3) 1) && ((ltb (word ws 4) 16 && (eqb (word ws 5 % 16) 0 && leb (word ws 5) 240))
    && (ops_encode (word ws 4) (word ws 6) (drop 7 ws) && leb (length (ops_bytes (word ws 6) (drop 7 ws))) 510))

-- words one by one
three : (ws : List ℕ) → 3 ≤ length ws → word ws 0 ∷ word ws 1 ∷ word ws 2 ∷ drop 3 ws ≡ ws
three ws h =
    sym (drop-cons ws 0 0 (omega arith) ∙ ap (λ (l : List ℕ). word ws 0 ∷ l) (drop-cons ws 1 0 (omega arith))
    ∙ ap (λ (l : List ℕ). word ws 0 ∷ word ws 1 ∷ l) (drop-cons ws 2 0 (omega arith)))

seven : (ws : List ℕ) → 7 ≤ length ws → word ws 0 ∷ word ws 1 ∷ word ws 2 ∷ word ws 3 ∷ word ws 4 ∷ word ws 5 ∷ word ws 6 ∷ drop 7 ws ≡ ws
seven ws h =
    ap (λ (l : List ℕ). word ws 0 ∷ word ws 1 ∷ word ws 2 ∷ l)
    (sym (drop-cons ws 3 0 (omega arith) ∙ ap (λ (l : List ℕ). word ws 3 ∷ l) (drop-cons ws 4 0 (omega arith))
    ∙ ap (λ (l : List ℕ). word ws 3 ∷ word ws 4 ∷ l) (drop-cons ws 5 0 (omega arith))
    ∙ ap (λ (l : List ℕ). word ws 3 ∷ word ws 4 ∷ word ws 5 ∷ l) (drop-cons ws 6 0 (omega arith))))
    ∙ three ws (omega arith)

module _ (f : ℕ) where
  more_ops : (n : ℕ) (ws : List ℕ) → T (ops_encode f (suc n) ws)
      → (3 ≤ length ws) × (T (op_encodes f (word ws 0) (word ws 1) (word ws 2)) × T (ops_encode f n (drop 3 ws)))
  unfolding ops_encode
  more_ops n ws h =
      let r = and_r (leb 3 (length ws)) _ h in
      (leb→le 3 (length ws) (and_l (leb 3 (length ws)) _ h), (and_l (op_encodes f (word ws 0) (word ws 1) (word ws 2)) _ r, and_r (op_encodes f (word ws 0) (word ws 1) (word ws 2)) _ r))

  -- whole slots
  ops_even : (n : ℕ) (ws : List ℕ) → T (ops_encode f n ws) → length (ops_bytes n ws) ≡ 2 * (length (ops_bytes n ws) / 2)
  unfolding ops_bytes
  ops_even zero ws h = refl
  ops_even (suc n) ws h =
      let m = more_ops n ws h in
      let e = op_encoded f (word ws 0) (word ws 1) (word ws 2) m.1.0 in
      omega (arith, e.encoded.size, ops_even n (drop 3 ws) m.1.1, length-append (op_bytes (word ws 0) (word ws 1) (word ws 2)) (ops_bytes n (drop 3 ws)))

  no_words : (ws : List ℕ) → T (eqb (length ws) 0) → [] ≡ ws
  no_words [] h = refl
  no_words (w ∷ ws) h = absurd (omega (arith, eqb→eq (length (w ∷ ws)) 0 h))

  -- an operation has bytes
  some : (n : ℕ) (ws : List ℕ) → T (ops_encode f (suc n) ws) → 2 ≤ length (ops_bytes (suc n) ws)
  unfolding ops_bytes
  some n ws h =
      let x = op_encoded f (word ws 0) (word ws 1) (word ws 2) (more_ops n ws h).1.0 in
      omega (arith, length-append (op_bytes (word ws 0) (word ws 1) (word ws 2)) (ops_bytes n (drop 3 ws)), x.encoded.size, x.encoded.some)

  -- the codes of the bytes are the operations
  ops_read : (n : ℕ) (ws : List ℕ) → T (ops_encode f n ws) → (k s : ℕ) → length (ops_bytes n ws) ≡ 2 * s → s ≤ k
      → (op_words (codes_in k f s (ops_bytes n ws)) ≡ ws) × (length (codes_in k f s (ops_bytes n ws)) ≡ n)
  unfolding ops_bytes ops_encode codes_in op_words
  ops_read zero ws h zero s e l = (no_words ws h, refl)
  ops_read zero ws h (suc k) zero e l = (no_words ws h, refl)
  ops_read zero ws h (suc k) (suc s) e l = absurd (omega (arith, e))
  ops_read (suc n) ws h zero s e l = absurd (omega (arith, e, some n ws h))
  ops_read (suc n) ws h (suc k) zero e l = absurd (omega (arith, e, some n ws h))
  ops_read (suc n) ws h (suc k) (suc s) e l =
      let ih = ops_read n (drop 3 ws) m.1.1 k (suc s - x.slots) (omega (arith, sum, e)) (omega (arith, x.some, l)) in
      rw (x.is more, le-leb 1 x.slots x.some, le-leb x.slots (suc s) fits, drop_at bytes more (2 * x.slots) x.size, r.kind, r.register, r.value)
      (ap (λ (l : List ℕ). word ws 0 ∷ word ws 1 ∷ word ws 2 ∷ l) ih.0 ∙ three ws m.0, ap suc ih.1)
    where
      m : (3 ≤ length ws) × (T (op_encodes f (word ws 0) (word ws 1) (word ws 2)) × T (ops_encode f n (drop 3 ws)))
      m = more_ops n ws h

      bytes : List ℕ
      bytes = op_bytes (word ws 0) (word ws 1) (word ws 2)

      more : List ℕ
      more = ops_bytes n (drop 3 ws)

      r : Read f (word ws 0) (word ws 1) (word ws 2) bytes
      r = op_encoded f (word ws 0) (word ws 1) (word ws 2) m.1.0

      x : Encoded f r.operation bytes
      x = r.encoded

      sum : length (bytes ++ more) ≡ 2 * x.slots + length more
      sum = omega (arith, length-append bytes more, x.size)

      fits : x.slots ≤ suc s
      fits = omega (arith, sum, e)

-- ---- decode (encode b) ≡ b

-- what `encodable` says
record Encodes (ws : List ℕ) : Type 0 where
  pub long : 7 ≤ length ws
  pub one : word ws 3 ≡ 1
  pub register : word ws 4 < 16
  pub offset : word ws 5 % 16 ≡ 0
  pub largest : word ws 5 ≤ 240
  pub ops : T (ops_encode (word ws 4) (word ws 6) (drop 7 ws))
  pub slots : length (ops_bytes (word ws 6) (drop 7 ws)) ≤ 510

encodes : (ws : List ℕ) → T (encodable ws) → Encodes ws
unfolding encodable
encodes ws h = record {
  long = leb→le 7 (length ws) (search (and_l, and_r));
  one = eqb→eq (word ws 3) 1 (search (and_l, and_r));
  register = ltb→lt (word ws 4) 16 (search (and_l, and_r));
  offset = eqb→eq (word ws 5 % 16) 0 (search (and_l, and_r));
  largest = leb→le (word ws 5) 240 (search (and_l, and_r));
  ops = search (and_l, and_r);
  slots = leb→le (length (ops_bytes (word ws 6) (drop 7 ws))) 510 (search (and_l, and_r));
}

-- the bytes are one part, and nothing is refused
one_part : (ws : List ℕ) → T (encodable ws) → parts (encode ws) ≡ encode ws ∷ []
unfolding encode
one_part ws h =
    let e = ops_even (word ws 4) (word ws 6) (drop 7 ws) (encodes ws h).ops in
    parts_first (encode ws) (omega arith)
    ∙ ap (λ (l : List ℕ). encode ws ∷ parts l) (drop_of_length-le (encode ws) {i = part_size (encode ws)} (omega (arith, e)))
    ∙ ap (λ (l : List (List ℕ)). encode ws ∷ l) parts_none

none_refused : (ws : List ℕ) → T (encodable ws) → x64_number (encode ws) ≡ 0
unfolding encode x64_number first_refused part_number
none_refused ws h =
    let e = ops_even (word ws 4) (word ws 6) (drop 7 ws) (encodes ws h).ops in
    rw (one_part ws h, le-ltb (length (encode ws)) (part_size (encode ws)) (omega (arith, e))) refl

-- its info is the body's
info_read : (ws : List ℕ) → T (encodable ws) → info_words (encode ws) ≡ word ws 4 ∷ word ws 5 ∷ word ws 6 ∷ drop 7 ws
unfolding encode info_words codes_of
info_read ws h =
    let q = encodes ws h in
    let f : (word ws 4 + word ws 5) % 16 ≡ word ws 4 = omega (arith, q.register, q.offset) in
    let o : (word ws 4 + word ws 5) / 16 * 16 ≡ word ws 5 = omega (arith, q.register, q.offset) in
    let s = length (ops_bytes (word ws 6) (drop 7 ws)) / 2 in
    let r = ops_read (word ws 4) (word ws 6) (drop 7 ws) q.ops s s (ops_even (word ws 4) (word ws 6) (drop 7 ws) q.ops) (omega arith) in
    rw (f, o, r.0, r.1) refl

body_read : (ws : List ℕ) → T (encodable ws) → x64_body (word ws 0) (word ws 1) (word ws 2) (encode ws) ≡ ws
unfolding x64_body infos_words
body_read ws h =
    rw (one_part ws h, info_read ws h, append-nil (drop 7 ws))
    (ap (λ (n : ℕ). word ws 0 ∷ word ws 1 ∷ word ws 2 ∷ n ∷ word ws 4 ∷ word ws 5 ∷ word ws 6 ∷ drop 7 ws) (sym (encodes ws h).one) ∙ seven ws (encodes ws h).long)

-- decoding the bytes of a body with its addresses, in a room of its length, fills in the body
pub decode_encode : (ws : List ℕ) → T (encodable ws)
    → decoded (encode ws) (word ws 0) (word ws 1) (word ws 2) (length ws) ≡ record { number = 0; placed = ws }
unfolding decoded
decode_encode ws h = rw (none_refused ws h, body_read ws h, le-ltb (length ws) (length ws) (omega arith))

-- ---- what is encoded are bytes

code_bytes_lem : (c i : ℕ) → c < 16 → i < 16 → T (are_bytes (code_bytes c i))
code_bytes_lem c i h k = both (ltb (c + 16 * i) 256) true (lt→ltb (c + 16 * i) 256 (omega arith)) tt

slot_bytes_lem : (v : ℕ) → v < 65536 → T (are_bytes (slot_bytes v))
slot_bytes_lem v h = both (ltb (v % 256) 256) _ (lt→ltb (v % 256) 256 (omega arith)) (both (ltb (v / 256) 256) true (lt→ltb (v / 256) 256 (omega arith)) tt)

joined : (xs ys : List ℕ) → T (are_bytes xs) → T (are_bytes ys) → T (are_bytes (xs ++ ys))
joined xs ys h k = all_append (λ b. ltb b 256) xs ys h k

long_bytes_lem : (v : ℕ) → v < 2 ^ 32 → T (are_bytes (long_bytes v))
long_bytes_lem v h = joined (slot_bytes (v % 65536)) (slot_bytes (v / 65536)) (slot_bytes_lem (v % 65536) (omega arith)) (slot_bytes_lem (v / 65536) (omega arith))

alloc_bytes_lem : (v : ℕ) → v < 2 ^ 32 → T (are_bytes (alloc_bytes v))
unfolding alloc_bytes
alloc_bytes_lem v h = go (in_units v) (leb 8 v && leb v 128) refl refl
  where
    go : (u s : Bool) → in_units v ≡ u → (leb 8 v && leb v 128) ≡ s
        → T (are_bytes (cond u (cond s (code_bytes 2 (v / 8 - 1)) (code_bytes 1 0 ++ slot_bytes (v / 8))) (code_bytes 1 1 ++ long_bytes v)))
    go true true e q =
        let t : T (leb 8 v && leb v 128) = rw q tt in
        code_bytes_lem 2 (v / 8 - 1) (omega arith) (omega (arith, leb→le v 128 (and_r (leb 8 v) _ t)))
    go true false e q =
        joined (code_bytes 1 0) (slot_bytes (v / 8)) (code_bytes_lem 1 0 (omega arith) (omega arith)) (slot_bytes_lem (v / 8) (omega (arith, units v (rw e tt))))
    go false s e q = joined (code_bytes 1 1) (long_bytes v) (code_bytes_lem 1 1 (omega arith) (omega arith)) (long_bytes_lem v h)

save_bytes_lem : (r v : ℕ) → r < 16 → v < 2 ^ 32 → T (are_bytes (save_bytes r v))
unfolding save_bytes
save_bytes_lem r v k h = go (in_units v) refl
  where
    go : (u : Bool) → in_units v ≡ u → T (are_bytes (cond u (code_bytes 4 r ++ slot_bytes (v / 8)) (code_bytes 5 r ++ long_bytes v)))
    go true e = joined (code_bytes 4 r) (slot_bytes (v / 8)) (code_bytes_lem 4 r (omega arith) k) (slot_bytes_lem (v / 8) (omega (arith, units v (rw e tt))))
    go false e = joined (code_bytes 5 r) (long_bytes v) (code_bytes_lem 5 r (omega arith) k) (long_bytes_lem v h)

op_bytes_lem : (f k r v : ℕ) → T (op_encodes f k r v) → T (are_bytes (op_bytes k r v))
unfolding op_encodes op_bytes
op_bytes_lem f k r v h = go (eqb k 1) (eqb k 2) (eqb k 5) (eqb k 6) h
  where
    go : (a b c d : Bool)
        → T (cond a (ltb r 16 && eqb v 0) (cond b (eqb r 0 && ltb v (2 ^ 32)) (cond c (eqb r 0 && eqb v 0)
        (cond d (eqb r 0 && leb v 1) (eqb k (kind_of (save f r v)) && (ltb r 16 && ltb v (2 ^ 32)))))))
        → T (are_bytes (cond a (code_bytes 0 r) (cond b (alloc_bytes v) (cond c (code_bytes 3 0) (cond d (code_bytes 10 v) (save_bytes r v))))))
    go true b c d h = code_bytes_lem 0 r (omega arith) (ltb→lt r 16 (and_l (ltb r 16) _ h))
    go false true c d h = alloc_bytes_lem v (ltb→lt v (2 ^ 32) (and_r (eqb r 0) _ h))
    go false false true d h = tt
    go false false false true h = code_bytes_lem 10 v (omega arith) (omega (arith, leb→le v 1 (and_r (eqb r 0) _ h)))
    go false false false false h =
        let t = and_r (eqb k (kind_of (save f r v))) _ h in
        save_bytes_lem r v (ltb→lt r 16 (and_l (ltb r 16) _ t)) (ltb→lt v (2 ^ 32) (and_r (ltb r 16) _ t))

ops_bytes_lem : (f n : ℕ) (ws : List ℕ) → T (ops_encode f n ws) → T (are_bytes (ops_bytes n ws))
unfolding ops_bytes
ops_bytes_lem f zero ws h = tt
ops_bytes_lem f (suc n) ws h =
    let m = more_ops f n ws h in
    joined (op_bytes (word ws 0) (word ws 1) (word ws 2)) (ops_bytes n (drop 3 ws)) (op_bytes_lem f (word ws 0) (word ws 1) (word ws 2) m.1.0) (ops_bytes_lem f n (drop 3 ws) m.1.1)

pub encode_bytes : (ws : List ℕ) → T (encodable ws) → T (are_bytes (encode ws))
unfolding encode
encode_bytes ws h =
    let q = encodes ws h in
    let l = length (ops_bytes (word ws 6) (drop 7 ws)) in
    both (ltb (l / 2) 256) _ (lt→ltb (l / 2) 256 (omega (arith, q.slots)))
    (both (ltb (word ws 4 + word ws 5) 256) _ (lt→ltb (word ws 4 + word ws 5) 256 (omega (arith, q.register, q.largest)))
    (ops_bytes_lem (word ws 4) (word ws 6) (drop 7 ws) q.ops))
