-- An ARM64 body back to unwind codes: `decoded` held to its own reading, decode (encode b) ≡ b. A body can be encoded where its kinds end the list at
-- its end alone, words that are not used are 0, and sizes, places and registers are such that a code has them.
use Rattle.std.specs.Prelude.{◌≡◌, refl, Bool, true, false, not, cond, ◌&&◌, ◌||◌, List, [], ◌∷◌, ◌++◌, ℕ, zero, suc, ◌+◌, ◌-◌, ◌*◌, ◌/◌, ◌%◌, ◌^◌, ◌≤◌, ◌<◌, T, length, get_or, drop, eqb, ltb, leb}
use Rattle.std.proofs.Common.{sym, ap, ◌∙◌, arith, subst, length-append, drop-cons, eqb→eq, ltb→lt, leb→le, le-leb, le-ltb, ne_eqb}
use borrow.Author.Tests.{lt-leb}
use Rattle.std.proofs.Math.Seq.{drop-append_seam}
use Rattle.text.specs.Tests.{is_true, and_l, and_r, all, eqw}
use Rattle.entry.specs.Entry.{word}
use Rattle.arm64.specs.Arm64.{words_of}
use Rattle.unwind_codes.specs.UnwindCodes.{any_reg, any_reg_offset, any_save, codes, bits_fit, find, code_of, meant, number, size_at, operation_at, whole, ends, ends_kind, list}
use Rattle.unwind_codes.specs.UnwindCodes.{op_words, arm_body, arm_number, decoded}
use Rattle.unwind_codes.specs.Index.{alloc_s, save_r19r20_x, save_fplr, save_fplr_x, alloc_m, save_regp, save_regp_x, save_reg, save_reg_x, save_lrpair, save_fregp, save_fregp_x}
use Rattle.unwind_codes.specs.Index.{save_freg, save_freg_x}
use Rattle.unwind_codes.specs.Index.{one, two, three, four, alloc_l, any_reg_lem, list_first, list_none}

-- ---- bytes of operations

-- x and, in the low six or five bits, z: codes of two bytes from first byte b on
abbrev pub six : ℕ → ℕ → ℕ → List ℕ
six b x z = (b + x / 4) ∷ (x % 4 * 64 + z) ∷ []

abbrev pub five : ℕ → ℕ → ℕ → List ℕ
five b x z = (b + x / 8) ∷ (x % 8 * 32 + z) ∷ []

-- a size in units of 16: alloc_s, alloc_m, alloc_l
unfoldable pub alloc_bytes : ℕ → List ℕ
alloc_bytes u =
    cond (ltb u 32) (u ∷ []) (cond (ltb u 2048) ((192 + u / 256) ∷ u % 256 ∷ []) (224 ∷ u / 65536 ∷ u / 256 % 256 ∷ u % 256 ∷ []))

-- a place in units of 8 that six bits hold, and one that they hold less one
abbrev pub near : ℕ → Bool
near v = eqb (v % 8) 0 && ltb v 512

abbrev pub near_pre : ℕ → Bool
near_pre v = eqb (v % 8) 0 && (leb 8 v && leb v 512)

-- the registers of codes of two bytes: x19 to x34, d8 to d15
abbrev pub is_x : ℕ → ℕ → Bool
is_x l r = eqb l 0 && (leb 19 r && leb r 34)

abbrev pub is_d : ℕ → ℕ → Bool
is_d l r = eqb l 1 && (leb 8 r && leb r 15)

-- save_any_reg, of a pair (p), pre-indexed (x), at o units
abbrev pub any_bytes : ℕ → ℕ → ℕ → ℕ → ℕ → List ℕ
any_bytes p x l r o = 231 ∷ (p * 64 + x * 32 + r) ∷ (l * 64 + o) ∷ []

-- the units of an offset there
abbrev pub unit : ℕ → ℕ → ℕ → ℕ
unit p x l = cond (eqb p 1 || eqb x 1 || eqb l 2) 16 8

-- kind 2: save_reg, save_freg, save_any_reg
unfoldable pub save_bytes : ℕ → ℕ → ℕ → List ℕ
save_bytes l r v =
    cond (is_x l r && near v) (six 208 (r - 19) (v / 8)) (cond (is_d l r && near v) (six 220 (r - 8) (v / 8)) (any_bytes 0 0 l r (v / unit 0 0 l)))

-- kind 3: save_reg_x, save_freg_x, save_any_reg; a unit less is stored
abbrev pub near_five : ℕ → Bool
near_five v = eqb (v % 8) 0 && (leb 8 v && leb v 256)

unfoldable pub save_pre_bytes : ℕ → ℕ → ℕ → List ℕ
save_pre_bytes l r v =
    cond (is_x l r && near_five v) (five 212 (r - 19) (v / 8 - 1)) (cond (is_d l r && near_five v) (five 222 (r - 8) (v / 8 - 1)) (any_bytes 0 1 l r (v / 16 - 1)))

-- kind 4: save_fplr, save_regp, save_fregp, save_any_reg
abbrev pub is_fp : ℕ → ℕ → Bool
is_fp l r = eqb l 0 && eqb r 29

unfoldable pub pair_bytes : ℕ → ℕ → ℕ → List ℕ
pair_bytes l r v =
    cond (is_fp l r && near v) ((64 + v / 8) ∷ []) (cond (is_x l r && near v) (six 200 (r - 19) (v / 8))
    (cond (is_d l r && near v) (six 216 (r - 8) (v / 8)) (any_bytes 1 0 l r (v / 16))))

-- kind 5: save_r19r20_x, which stores no unit less, save_fplr_x, save_regp_x, save_fregp_x, save_any_reg
abbrev pub is_r19 : ℕ → ℕ → ℕ → Bool
is_r19 l r v = (eqb l 0 && eqb r 19) && (eqb (v % 8) 0 && ltb v 256)

unfoldable pub pair_pre_bytes : ℕ → ℕ → ℕ → List ℕ
pair_pre_bytes l r v =
    cond (is_r19 l r v) ((32 + v / 8) ∷ []) (cond (is_fp l r && near_pre v) ((128 + (v / 8 - 1)) ∷ [])
    (cond (is_x l r && near_pre v) (six 204 (r - 19) (v / 8 - 1)) (cond (is_d l r && near_pre v) (six 218 (r - 8) (v / 8 - 1)) (any_bytes 1 1 l r (v / 16 - 1)))))

-- kind, letter, register, value; save_lrpair, save_next, nop, end, and a code for a custom stack
unfoldable pub op_bytes : ℕ → ℕ → ℕ → ℕ → List ℕ
op_bytes k l r v =
    cond (eqb k 1) (alloc_bytes (v / 16)) (cond (eqb k 2) (save_bytes l r v) (cond (eqb k 3) (save_pre_bytes l r v) (cond (eqb k 4) (pair_bytes l r v)
    (cond (eqb k 5) (pair_pre_bytes l r v) (cond (eqb k 6) (six 214 ((r - 19) / 2) (v / 8)) (cond (eqb k 7) (230 ∷ []) (cond (eqb k 8) (227 ∷ [])
    (cond (eqb k 9) (228 ∷ []) (232 ∷ [])))))))))

-- ---- which can be encoded

-- by save_any_reg: register 0 to 31, and an offset that six bits hold
abbrev pub any_has : ℕ → ℕ → ℕ → ℕ → ℕ → Bool
any_has p x l r v = leb l 2 && (leb r 31 && (eqb (v % unit p x l) 0 && (leb (x * unit p x l) v && ltb v ((64 + x) * unit p x l))))

abbrev pub none : ℕ → ℕ → ℕ → Bool
none l r v = eqb l 0 && (eqb r 0 && eqb v 0)

unfoldable pub op_encodes : ℕ → ℕ → ℕ → ℕ → Bool
op_encodes k l r v =
    cond (eqb k 1) (eqb l 0 && (eqb r 0 && (eqb (v % 16) 0 && ltb v (2 ^ 28))))
    (cond (eqb k 2) (cond (is_x l r && near v) true (cond (is_d l r && near v) true (any_has 0 0 l r v)))
    (cond (eqb k 3) (cond (is_x l r && near_five v) true (cond (is_d l r && near_five v) true (any_has 0 1 l r v)))
    (cond (eqb k 4) (cond (is_fp l r && near v) true (cond (is_x l r && near v) true (cond (is_d l r && near v) true (any_has 1 0 l r v))))
    (cond (eqb k 5) (cond (is_r19 l r v) true (cond (is_fp l r && near_pre v) true (cond (is_x l r && near_pre v) true (cond (is_d l r && near_pre v) true (any_has 1 1 l r v)))))
    (cond (eqb k 6) (eqb l 0 && ((leb 19 r && leb r 33) && (eqb (r % 2) 1 && near v)))
    (cond (eqb k 7) (none l r v) (cond (eqb k 8) (none l r v) (cond (eqb k 9) (none l r v) (eqb k 10 && none l r v)))))))))

-- ---- one operation

-- the words of an operation
abbrev as_words : ℕ → ℕ → ℕ → ℕ → List ℕ
as_words k l r v = k ∷ l ∷ r ∷ v ∷ []

-- bytes that are read as an operation of these, whatever follows
record Encoded (k l r v : ℕ) (bytes : List ℕ) : Type 0 where
  pub some : 1 ≤ length bytes
  pub size : (rest : List ℕ) → size_at (bytes ++ rest) ≡ length bytes
  pub is : (rest : List ℕ) → words_of (operation_at (bytes ++ rest)) ≡ as_words k l r v

-- by their size, and the number that they make
by : {k l r v : ℕ} (b : ℕ) (bs : List ℕ) {n : ℕ} → length (b ∷ bs) ≡ (code_of b).size → ((rest : List ℕ) → number (length (b ∷ bs)) (b ∷ bs ++ rest) ≡ n)
    → as_words k l r v ≡ words_of (meant (code_of b) n) → Encoded k l r v (b ∷ bs)
unfolding operation_at
by b bs e m o = record {
  some = omega arith;
  size = λ rest. sym e;
  is = λ rest. ap (λ (j : ℕ). words_of (meant (code_of b) (number j (b ∷ bs ++ rest)))) (sym e) ∙ ap (λ (j : ℕ). words_of (meant (code_of b) j)) (m rest) ∙ sym o;
}

module _ {k l r v : ℕ} (b : ℕ) where
  by_1 : 1 ≡ (code_of b).size → as_words k l r v ≡ words_of (meant (code_of b) b) → Encoded k l r v (b ∷ [])
  unfolding number
  by_1 e o = by b [] e (λ rest. omega arith) o

  by_2 : (c : ℕ) → 2 ≡ (code_of b).size → as_words k l r v ≡ words_of (meant (code_of b) (256 * b + c)) → Encoded k l r v (b ∷ c ∷ [])
  unfolding number
  by_2 c e o = by b (c ∷ []) e (λ rest. omega arith) o

  by_3 : (c d : ℕ) → 3 ≡ (code_of b).size → as_words k l r v ≡ words_of (meant (code_of b) (65536 * b + 256 * c + d)) → Encoded k l r v (b ∷ c ∷ d ∷ [])
  unfolding number
  by_3 c d e o = by b (c ∷ d ∷ []) e (λ rest. omega arith) o

  by_4 : (c d f : ℕ) → 4 ≡ (code_of b).size → as_words k l r v ≡ words_of (meant (code_of b) (16777216 * b + 65536 * c + 256 * d + f)) → Encoded k l r v (b ∷ c ∷ d ∷ f ∷ [])
  unfolding number
  by_4 c d f e o = by b (c ∷ d ∷ f ∷ []) e (λ rest. omega arith) o

-- the same words by other numbers
op_as : (k l : ℕ) {r s v w : ℕ} → r ≡ s → v ≡ w → as_words k l r v ≡ as_words k l s w
op_as k l e f = rw (e, f)

alloc_encoded : (v : ℕ) → v % 16 ≡ 0 → v < 2 ^ 28 → Encoded 1 0 0 v (alloc_bytes (v / 16))
unfolding alloc_bytes words_of
alloc_encoded v m h = go (ltb (v / 16) 32) (ltb (v / 16) 2048) refl refl
  where
    go : (s t : Bool) → ltb (v / 16) 32 ≡ s → ltb (v / 16) 2048 ≡ t
        → Encoded 1 0 0 v (cond s (v / 16 ∷ []) (cond t ((192 + v / 16 / 256) ∷ v / 16 % 256 ∷ []) (224 ∷ v / 16 / 65536 ∷ v / 16 / 256 % 256 ∷ v / 16 % 256 ∷ [])))
    go true t p q =
        let s : v / 16 < 32 = ltb→lt (v / 16) 32 (rw p tt) in
        by_1 (v / 16) (one (v / 16) (omega arith)) (op_as 1 0 refl (omega arith) ∙ ap words_of (alloc_s (v / 16) (v / 16) s))
    go false true p q =
        let s : v / 16 < 2048 = ltb→lt (v / 16) 2048 (rw q tt) in
        let b = 192 + v / 16 / 256 in
        by_2 b (v / 16 % 256) (two b (omega arith) (omega arith)) (op_as 1 0 refl (omega arith) ∙ ap words_of (alloc_m b (256 * b + v / 16 % 256) (omega arith) (omega arith)))
    go false false p q =
        by_4 224 (v / 16 / 65536) (v / 16 / 256 % 256) (v / 16 % 256) (four 224 refl)
        (op_as 1 0 refl (omega arith) ∙ ap words_of (alloc_l 224 (16777216 * 224 + 65536 * (v / 16 / 65536) + 256 * (v / 16 / 256 % 256) + v / 16 % 256) refl))

-- ---- saves

record Near (v : ℕ) : Type 0 where
  pub units : v % 8 ≡ 0
  pub fits : v < 512

near_is : (v : ℕ) → T (near v) → Near v
near_is v h = record { units = eqb→eq (v % 8) 0 (and_l (eqb (v % 8) 0) _ h); fits = ltb→lt v 512 (and_r (eqb (v % 8) 0) _ h) }

-- pre-indexed: at least a unit, and at most m bytes
record NearPre (m v : ℕ) : Type 0 where
  pub units : v % 8 ≡ 0
  pub some : 8 ≤ v
  pub fits : v ≤ m

near_pre_lem : (m v : ℕ) → T (eqb (v % 8) 0 && (leb 8 v && leb v m)) → NearPre m v
near_pre_lem m v h =
    let k = and_r (eqb (v % 8) 0) _ h in
    record { units = eqb→eq (v % 8) 0 (and_l (eqb (v % 8) 0) _ h); some = leb→le 8 v (and_l (leb 8 v) _ k); fits = leb→le v m (and_r (leb 8 v) _ k) }

-- a letter, and a register between two
record Between (a b m l r : ℕ) : Type 0 where
  pub letter : l ≡ m
  pub low : a ≤ r
  pub high : r ≤ b

between : (a b m l r : ℕ) → T (eqb l m && (leb a r && leb r b)) → Between a b m l r
between a b m l r h =
    let k = and_r (eqb l m) _ h in
    record { letter = eqb→eq l m (and_l (eqb l m) _ h); low = leb→le a r (and_l (leb a r) _ k); high = leb→le r b (and_r (leb a r) _ k) }

-- save_any_reg, whatever its fields are
any_read : (p x l r o : ℕ) → p ≤ 1 → x ≤ 1 → l ≤ 2 → r ≤ 31 → o < 64
    → any_reg (p * 64 + x * 32 + r) (l * 64 + o) ≡ any_save (eqb p 1) (eqb x 1) l r (any_reg_offset (eqb p 1) (eqb x 1) l o)
unfolding any_reg
any_read p x l r o hp hx hl hr ho =
    let s = p * 64 + x * 32 + r in
    let t = l * 64 + o in
    let a : s / 64 ≡ p = omega arith in
    let b : s / 32 % 2 ≡ x = omega arith in
    let c : s % 32 ≡ r = omega arith in
    let d : t / 64 ≡ l = omega arith in
    let e : t % 64 ≡ o = omega arith in
    rw (lt-leb 128 s (omega arith), a, b, c, d, e, ne_eqb l 3 (omega arith))

any_encoded : {k : ℕ} (p x l r o v : ℕ) → p ≤ 1 → x ≤ 1 → l ≤ 2 → r ≤ 31 → o < 64 → v ≡ any_reg_offset (eqb p 1) (eqb x 1) l o
    → ((w : ℕ) → as_words k l r w ≡ words_of (any_save (eqb p 1) (eqb x 1) l r w)) → Encoded k l r v (any_bytes p x l r o)
any_encoded {k} p x l r o v hp hx hl hr ho e is =
    let s = p * 64 + x * 32 + r in
    let t = l * 64 + o in
    let n = 65536 * 231 + 256 * s + t in
    let a : n / 256 % 256 ≡ s = omega arith in
    let b : n % 256 ≡ t = omega arith in
    let read = sym (any_read p x l r o hp hx hl hr ho) ∙ sym (ap (λ (j : ℕ). any_reg j (n % 256)) a ∙ ap (λ (j : ℕ). any_reg s j) b) ∙ any_reg_lem 231 n refl in
    by_3 231 s t (three 231 refl) (op_as k l refl e ∙ is (any_reg_offset (eqb p 1) (eqb x 1) l o) ∙ ap words_of read)

-- by the unit that they have
any_placed : (l r v : ℕ) → T (any_has 0 0 l r v) → Encoded 2 l r v (any_bytes 0 0 l r (v / unit 0 0 l))
unfolding words_of
any_placed l r v h = go (eqb l 2) refl h
  where
    go : (q : Bool) → eqb l 2 ≡ q
        → T (leb l 2 && (leb r 31 && (eqb (v % cond q 16 8) 0 && (leb (0 * cond q 16 8) v && ltb v ((64 + 0) * cond q 16 8)))))
        → Encoded 2 l r v (any_bytes 0 0 l r (v / cond q 16 8))
    go true e h =
        let a : l ≤ 2 = leb→le l 2 (and_l (leb l 2) _ h) in
        let h₁ = and_r (leb l 2) _ h in
        let b : r ≤ 31 = leb→le r 31 (and_l (leb r 31) _ h₁) in
        let h₂ = and_r (leb r 31) _ h₁ in
        let c : v % 16 ≡ 0 = eqb→eq (v % 16) 0 (and_l (eqb (v % 16) 0) _ h₂) in
        let d : v < 64 * 16 = ltb→lt v (64 * 16) (and_r (leb 0 v) _ (and_r (eqb (v % 16) 0) _ h₂)) in
        any_encoded 0 0 l r (v / 16) v (omega arith) (omega arith) a b (omega arith) (rw e (omega arith)) (λ w. refl)
    go false e h =
        let a : l ≤ 2 = leb→le l 2 (and_l (leb l 2) _ h) in
        let h₁ = and_r (leb l 2) _ h in
        let b : r ≤ 31 = leb→le r 31 (and_l (leb r 31) _ h₁) in
        let h₂ = and_r (leb r 31) _ h₁ in
        let c : v % 8 ≡ 0 = eqb→eq (v % 8) 0 (and_l (eqb (v % 8) 0) _ h₂) in
        let d : v < 64 * 8 = ltb→lt v (64 * 8) (and_r (leb 0 v) _ (and_r (eqb (v % 8) 0) _ h₂)) in
        any_encoded 0 0 l r (v / 8) v (omega arith) (omega arith) a b (omega arith) (rw e (omega arith)) (λ w. refl)

-- a pair, or pre-indexed: in units of 16
record Any (x l r v : ℕ) : Type 0 where
  pub letter : l ≤ 2
  pub register : r ≤ 31
  pub units : v % 16 ≡ 0
  pub some : x * 16 ≤ v
  pub fits : v < (64 + x) * 16

any_has_lem : (x l r v : ℕ) → T (leb l 2 && (leb r 31 && (eqb (v % 16) 0 && (leb (x * 16) v && ltb v ((64 + x) * 16))))) → Any x l r v
any_has_lem x l r v h = record {
  letter = leb→le l 2 (search (and_l, and_r));
  register = leb→le r 31 (search (and_l, and_r));
  units = eqb→eq (v % 16) 0 (search (and_l, and_r));
  some = leb→le (x * 16) v (search (and_l, and_r));
  fits = ltb→lt v ((64 + x) * 16) (search (and_l, and_r));
}

-- ---- each code of two bytes

save_reg_encoded : (r v : ℕ) → 19 ≤ r → r ≤ 34 → Near v → Encoded 2 0 r v (six 208 (r - 19) (v / 8))
unfolding words_of
save_reg_encoded r v p q n =
    let b = 208 + (r - 19) / 4 in
    let c = (r - 19) % 4 * 64 + v / 8 in
    by_2 b c (two b (omega arith) (omega arith))
    (op_as 2 0 (omega (arith, n.units, n.fits)) (omega (arith, n.units, n.fits)) ∙ ap words_of (save_reg b (256 * b + c) (omega arith) (omega arith)))

save_freg_encoded : (r v : ℕ) → 8 ≤ r → r ≤ 15 → Near v → Encoded 2 1 r v (six 220 (r - 8) (v / 8))
unfolding words_of
save_freg_encoded r v p q n =
    let b = 220 + (r - 8) / 4 in
    let c = (r - 8) % 4 * 64 + v / 8 in
    by_2 b c (two b (omega arith) (omega arith))
    (op_as 2 1 (omega (arith, n.units, n.fits)) (omega (arith, n.units, n.fits)) ∙ ap words_of (save_freg b (256 * b + c) (omega arith) (omega arith)))

save_reg_x_encoded : (r v : ℕ) → 19 ≤ r → r ≤ 34 → NearPre 256 v → Encoded 3 0 r v (five 212 (r - 19) (v / 8 - 1))
unfolding words_of
save_reg_x_encoded r v p q n =
    let b = 212 + (r - 19) / 8 in
    let c = (r - 19) % 8 * 32 + (v / 8 - 1) in
    by_2 b c (two b (omega arith) (omega arith))
    (op_as 3 0 (omega (arith, n.units, n.some, n.fits)) (omega (arith, n.units, n.some, n.fits)) ∙ ap words_of (save_reg_x b (256 * b + c) (omega arith) (omega arith)))

save_freg_x_encoded : (r v : ℕ) → 8 ≤ r → r ≤ 15 → NearPre 256 v → Encoded 3 1 r v (five 222 (r - 8) (v / 8 - 1))
unfolding words_of
save_freg_x_encoded r v p q n =
    let b = 222 + (r - 8) / 8 in
    let c = (r - 8) % 8 * 32 + (v / 8 - 1) in
    by_2 b c (two b (omega arith) (omega arith))
    (op_as 3 1 (omega (arith, n.units, n.some, n.fits)) (omega (arith, n.units, n.some, n.fits)) ∙ ap words_of (save_freg_x b (256 * b + c) (omega arith)))

save_regp_encoded : (r v : ℕ) → 19 ≤ r → r ≤ 34 → Near v → Encoded 4 0 r v (six 200 (r - 19) (v / 8))
unfolding words_of
save_regp_encoded r v p q n =
    let b = 200 + (r - 19) / 4 in
    let c = (r - 19) % 4 * 64 + v / 8 in
    by_2 b c (two b (omega arith) (omega arith))
    (op_as 4 0 (omega (arith, n.units, n.fits)) (omega (arith, n.units, n.fits)) ∙ ap words_of (save_regp b (256 * b + c) (omega arith) (omega arith)))

save_fregp_encoded : (r v : ℕ) → 8 ≤ r → r ≤ 15 → Near v → Encoded 4 1 r v (six 216 (r - 8) (v / 8))
unfolding words_of
save_fregp_encoded r v p q n =
    let b = 216 + (r - 8) / 4 in
    let c = (r - 8) % 4 * 64 + v / 8 in
    by_2 b c (two b (omega arith) (omega arith))
    (op_as 4 1 (omega (arith, n.units, n.fits)) (omega (arith, n.units, n.fits)) ∙ ap words_of (save_fregp b (256 * b + c) (omega arith) (omega arith)))

save_regp_x_encoded : (r v : ℕ) → 19 ≤ r → r ≤ 34 → NearPre 512 v → Encoded 5 0 r v (six 204 (r - 19) (v / 8 - 1))
unfolding words_of
save_regp_x_encoded r v p q n =
    let b = 204 + (r - 19) / 4 in
    let c = (r - 19) % 4 * 64 + (v / 8 - 1) in
    by_2 b c (two b (omega arith) (omega arith))
    (op_as 5 0 (omega (arith, n.units, n.some, n.fits)) (omega (arith, n.units, n.some, n.fits)) ∙ ap words_of (save_regp_x b (256 * b + c) (omega arith) (omega arith)))

save_fregp_x_encoded : (r v : ℕ) → 8 ≤ r → r ≤ 15 → NearPre 512 v → Encoded 5 1 r v (six 218 (r - 8) (v / 8 - 1))
unfolding words_of
save_fregp_x_encoded r v p q n =
    let b = 218 + (r - 8) / 4 in
    let c = (r - 8) % 4 * 64 + (v / 8 - 1) in
    by_2 b c (two b (omega arith) (omega arith))
    (op_as 5 1 (omega (arith, n.units, n.some, n.fits)) (omega (arith, n.units, n.some, n.fits)) ∙ ap words_of (save_fregp_x b (256 * b + c) (omega arith) (omega arith)))

save_lrpair_encoded : (r v : ℕ) → 19 ≤ r → r ≤ 33 → r % 2 ≡ 1 → Near v → Encoded 6 0 r v (six 214 ((r - 19) / 2) (v / 8))
unfolding words_of
save_lrpair_encoded r v p q o n =
    let b = 214 + (r - 19) / 2 / 4 in
    let c = (r - 19) / 2 % 4 * 64 + v / 8 in
    by_2 b c (two b (omega arith) (omega arith))
    (op_as 6 0 (omega (arith, n.units, n.fits)) (omega (arith, n.units, n.fits)) ∙ ap words_of (save_lrpair b (256 * b + c) (omega arith) (omega arith)))

-- ---- each kind

-- a code of x registers, one of d registers, or save_any_reg
choose : {k l r v : ℕ} {xs ys zs : List ℕ} (s t : Bool) (P : Bool) → (T s → Encoded k l r v xs) → (T t → Encoded k l r v ys) → (T P → Encoded k l r v zs)
    → T (cond s true (cond t true P)) → Encoded k l r v (cond s xs (cond t ys zs))
choose true t P f g a h = f tt
choose false true P f g a h = g tt
choose false false P f g a h = a h

-- one more before them
first : {k l r v : ℕ} {xs ys : List ℕ} (s P : Bool) → (T s → Encoded k l r v xs) → (T P → Encoded k l r v ys) → T (cond s true P) → Encoded k l r v (cond s xs ys)
first true P f a h = f tt
first false P f a h = a h

-- of a letter and a register between two
of_x : {k v : ℕ} {xs : ℕ → List ℕ} (a b m l r : ℕ) (N : Bool) → ((r : ℕ) → a ≤ r → r ≤ b → T N → Encoded k m r v (xs r))
    → T ((eqb l m && (leb a r && leb r b)) && N) → Encoded k l r v (xs r)
of_x {k} {v} {xs} a b m l r N f h =
    let y = between a b m l r (and_l (eqb l m && (leb a r && leb r b)) N h) in
    rw y.letter (f r y.low y.high (and_r (eqb l m && (leb a r && leb r b)) N h))

save_encoded : (l r v : ℕ) → T (op_encodes 2 l r v) → Encoded 2 l r v (save_bytes l r v)
unfolding op_encodes save_bytes
save_encoded l r v =
    choose (is_x l r && near v) (is_d l r && near v) (any_has 0 0 l r v)
    (of_x {xs = λ (r : ℕ). six 208 (r - 19) (v / 8)} 19 34 0 l r (near v) (λ r p q n. save_reg_encoded r v p q (near_is v n)))
    (of_x {xs = λ (r : ℕ). six 220 (r - 8) (v / 8)} 8 15 1 l r (near v) (λ r p q n. save_freg_encoded r v p q (near_is v n)))
    (any_placed l r v)

save_pre_encoded : (l r v : ℕ) → T (op_encodes 3 l r v) → Encoded 3 l r v (save_pre_bytes l r v)
unfolding op_encodes save_pre_bytes words_of
save_pre_encoded l r v =
    choose (is_x l r && near_five v) (is_d l r && near_five v) (any_has 0 1 l r v)
    (of_x {xs = λ (r : ℕ). five 212 (r - 19) (v / 8 - 1)} 19 34 0 l r (near_five v) (λ r p q n. save_reg_x_encoded r v p q (near_pre_lem 256 v n)))
    (of_x {xs = λ (r : ℕ). five 222 (r - 8) (v / 8 - 1)} 8 15 1 l r (near_five v) (λ r p q n. save_freg_x_encoded r v p q (near_pre_lem 256 v n)))
    (λ h. let a = any_has_lem 1 l r v h in any_encoded 0 1 l r (v / 16 - 1) v (omega arith) (omega arith) a.letter a.register (omega (arith, a.fits)) (omega (arith, a.units, a.some)) (λ w. refl))

pair_encoded : (l r v : ℕ) → T (op_encodes 4 l r v) → Encoded 4 l r v (pair_bytes l r v)
unfolding op_encodes pair_bytes words_of
pair_encoded l r v =
    first (is_fp l r && near v) _ fp
    (choose (is_x l r && near v) (is_d l r && near v) (any_has 1 0 l r v)
    (of_x {xs = λ (r : ℕ). six 200 (r - 19) (v / 8)} 19 34 0 l r (near v) (λ r p q n. save_regp_encoded r v p q (near_is v n)))
    (of_x {xs = λ (r : ℕ). six 216 (r - 8) (v / 8)} 8 15 1 l r (near v) (λ r p q n. save_fregp_encoded r v p q (near_is v n)))
    (λ h. let a = any_has_lem 0 l r v h in any_encoded 1 0 l r (v / 16) v (omega arith) (omega arith) a.letter a.register (omega (arith, a.fits)) (omega (arith, a.units, a.some)) (λ w. refl)))
  where
    fp : T (is_fp l r && near v) → Encoded 4 l r v ((64 + v / 8) ∷ [])
    fp h =
        let x : l ≡ 0 = eqb→eq l 0 (and_l (eqb l 0) (eqb r 29) (and_l (is_fp l r) (near v) h)) in
        let y : r ≡ 29 = eqb→eq r 29 (and_r (eqb l 0) (eqb r 29) (and_l (is_fp l r) (near v) h)) in
        let n = near_is v (and_r (is_fp l r) (near v) h) in
        let b = 64 + v / 8 in
        rw (x, y) (by_1 b (one b (omega (arith, n.fits))) (op_as 4 0 refl (omega (arith, n.units, n.fits)) ∙ ap words_of (save_fplr b b (omega arith) (omega (arith, n.fits)))))

pair_pre_encoded : (l r v : ℕ) → T (op_encodes 5 l r v) → Encoded 5 l r v (pair_pre_bytes l r v)
unfolding op_encodes pair_pre_bytes words_of
pair_pre_encoded l r v =
    first (is_r19 l r v) _ r19
    (first (is_fp l r && near_pre v) _ fp
    (choose (is_x l r && near_pre v) (is_d l r && near_pre v) (any_has 1 1 l r v)
    (of_x {xs = λ (r : ℕ). six 204 (r - 19) (v / 8 - 1)} 19 34 0 l r (near_pre v) (λ r p q n. save_regp_x_encoded r v p q (near_pre_lem 512 v n)))
    (of_x {xs = λ (r : ℕ). six 218 (r - 8) (v / 8 - 1)} 8 15 1 l r (near_pre v) (λ r p q n. save_fregp_x_encoded r v p q (near_pre_lem 512 v n)))
    (λ h. let a = any_has_lem 1 l r v h in any_encoded 1 1 l r (v / 16 - 1) v (omega arith) (omega arith) a.letter a.register (omega (arith, a.fits)) (omega (arith, a.units, a.some)) (λ w. refl))))
  where
    r19 : T (is_r19 l r v) → Encoded 5 l r v ((32 + v / 8) ∷ [])
    r19 h =
        let x : l ≡ 0 = eqb→eq l 0 (and_l (eqb l 0) (eqb r 19) (and_l (eqb l 0 && eqb r 19) (eqb (v % 8) 0 && ltb v 256) h)) in
        let y : r ≡ 19 = eqb→eq r 19 (and_r (eqb l 0) (eqb r 19) (and_l (eqb l 0 && eqb r 19) (eqb (v % 8) 0 && ltb v 256) h)) in
        let n = and_r (eqb l 0 && eqb r 19) (eqb (v % 8) 0 && ltb v 256) h in
        let u : v % 8 ≡ 0 = eqb→eq (v % 8) 0 (and_l (eqb (v % 8) 0) (ltb v 256) n) in
        let f : v < 256 = ltb→lt v 256 (and_r (eqb (v % 8) 0) (ltb v 256) n) in
        let b = 32 + v / 8 in
        rw (x, y) (by_1 b (one b (omega arith)) (op_as 5 0 refl (omega arith) ∙ ap words_of (save_r19r20_x b b (omega arith) (omega arith))))

    fp : T (is_fp l r && near_pre v) → Encoded 5 l r v ((128 + (v / 8 - 1)) ∷ [])
    fp h =
        let x : l ≡ 0 = eqb→eq l 0 (and_l (eqb l 0) (eqb r 29) (and_l (is_fp l r) (near_pre v) h)) in
        let y : r ≡ 29 = eqb→eq r 29 (and_r (eqb l 0) (eqb r 29) (and_l (is_fp l r) (near_pre v) h)) in
        let n = near_pre_lem 512 v (and_r (is_fp l r) (near_pre v) h) in
        let b = 128 + (v / 8 - 1) in
        rw (x, y)
        (by_1 b (one b (omega (arith, n.fits))) (op_as 5 0 refl (omega (arith, n.units, n.some, n.fits)) ∙ ap words_of (save_fplr_x b b (omega arith) (omega (arith, n.fits)))))

none_is : (l r v : ℕ) → T (none l r v) → (l ≡ 0) × ((r ≡ 0) × (v ≡ 0))
none_is l r v h =
    let k = and_r (eqb l 0) (eqb r 0 && eqb v 0) h in
    (eqb→eq l 0 (and_l (eqb l 0) (eqb r 0 && eqb v 0) h), (eqb→eq r 0 (and_l (eqb r 0) (eqb v 0) k), eqb→eq v 0 (and_r (eqb r 0) (eqb v 0) k)))

-- a code without numbers
plain : (k b : ℕ) {l r v : ℕ} → 1 ≡ (code_of b).size → as_words k 0 0 0 ≡ words_of (meant (code_of b) b) → T (none l r v) → Encoded k l r v (b ∷ [])
plain k b {l} {r} {v} e o h = let z = none_is l r v h in rw (z.0, z.1.0, z.1.1) (by_1 b e o)

lrpair_encoded : (l r v : ℕ) → T (op_encodes 6 l r v) → Encoded 6 l r v (six 214 ((r - 19) / 2) (v / 8))
unfolding op_encodes
lrpair_encoded l r v h =
    let k = and_r (eqb l 0) ((leb 19 r && leb r 33) && (eqb (r % 2) 1 && near v)) h in
    let a = and_l (leb 19 r && leb r 33) (eqb (r % 2) 1 && near v) k in
    let n = and_r (leb 19 r && leb r 33) (eqb (r % 2) 1 && near v) k in
    rw (eqb→eq l 0 (and_l (eqb l 0) ((leb 19 r && leb r 33) && (eqb (r % 2) 1 && near v)) h))
    (save_lrpair_encoded r v (leb→le 19 r (and_l (leb 19 r) (leb r 33) a)) (leb→le r 33 (and_r (leb 19 r) (leb r 33) a))
    (eqb→eq (r % 2) 1 (and_l (eqb (r % 2) 1) (near v) n)) (near_is v (and_r (eqb (r % 2) 1) (near v) n)))

alloc_is : (l r v : ℕ) → T (op_encodes 1 l r v) → Encoded 1 l r v (alloc_bytes (v / 16))
unfolding op_encodes
alloc_is l r v h =
    let k = and_r (eqb l 0) (eqb r 0 && (eqb (v % 16) 0 && ltb v (2 ^ 28))) h in
    let n = and_r (eqb r 0) (eqb (v % 16) 0 && ltb v (2 ^ 28)) k in
    let x : l ≡ 0 = eqb→eq l 0 (and_l (eqb l 0) (eqb r 0 && (eqb (v % 16) 0 && ltb v (2 ^ 28))) h) in
    let y : r ≡ 0 = eqb→eq r 0 (and_l (eqb r 0) (eqb (v % 16) 0 && ltb v (2 ^ 28)) k) in
    rw (x, y) (alloc_encoded v (eqb→eq (v % 16) 0 (and_l (eqb (v % 16) 0) (ltb v (2 ^ 28)) n)) (ltb→lt v (2 ^ 28) (and_r (eqb (v % 16) 0) (ltb v (2 ^ 28)) n)))

-- kind n, or another one
kind : {k l r v : ℕ} {xs ys : List ℕ} (n : ℕ) (P Q : Bool) → (T P → Encoded n l r v xs) → (T Q → Encoded k l r v ys) → T (cond (eqb k n) P Q)
    → Encoded k l r v (cond (eqb k n) xs ys)
kind {k} {l} {r} {v} {xs} {ys} n P Q f a h = go (eqb k n) refl h
  where
    go : (t : Bool) → eqb k n ≡ t → T (cond t P Q) → Encoded k l r v (cond t xs ys)
    go true e h = subst (λ (j : ℕ). Encoded j l r v xs) (sym (eqb→eq k n (rw e tt))) (f h)
    go false e h = a h

-- every operation that can be encoded
op_encoded : (k l r v : ℕ) → T (op_encodes k l r v) → Encoded k l r v (op_bytes k l r v)
unfolding op_encodes op_bytes codes bits_fit find meant words_of
op_encoded k l r v =
    kind 1 _ _ (alloc_is l r v) (kind 2 _ _ (save_encoded l r v) (kind 3 _ _ (save_pre_encoded l r v) (kind 4 _ _ (pair_encoded l r v)
    (kind 5 _ _ (pair_pre_encoded l r v) (kind 6 _ _ (lrpair_encoded l r v) (kind 7 (none l r v) _ (plain 7 230 refl refl) (kind 8 (none l r v) _ (plain 8 227 refl refl)
    (kind 9 (none l r v) _ (plain 9 228 refl refl) last))))))))
  where
    last : T (eqb k 10 && none l r v) → Encoded k l r v (232 ∷ [])
    last h = subst (λ (j : ℕ). Encoded j l r v (232 ∷ [])) (sym (eqb→eq k 10 (and_l (eqb k 10) (none l r v) h))) (plain 10 232 refl refl (and_r (eqb k 10) (none l r v) h))

-- ---- a body

-- n operations, four words each
unfoldable pub ops_bytes : ℕ → List ℕ → List ℕ
ops_bytes zero ws = []
ops_bytes (suc n) ws = op_bytes (word ws 0) (word ws 1) (word ws 2) (word ws 3) ++ ops_bytes n (drop 4 ws)

-- there are just as many, each can be encoded, and a kind that ends the list is the last
unfoldable pub ops_encode : ℕ → List ℕ → Bool
ops_encode zero ws = eqb (length ws) 0
ops_encode (suc n) ws =
    leb 4 (length ws) && (op_encodes (word ws 0) (word ws 1) (word ws 2) (word ws 3) && ((not (ends_kind (word ws 0)) || eqb n 0) && ops_encode n (drop 4 ws)))

-- the unwind codes of a body; address and size are not among them
unfoldable pub encode : List ℕ → List ℕ
encode ws = ops_bytes (word ws 2) (drop 3 ws)

-- whether a body can be encoded
unfoldable pub encodable : List ℕ → Bool
encodable ws = leb 3 (length ws) && (leb (word ws 2) 1024 && ops_encode (word ws 2) (drop 3 ws))

-- words one by one
four_words : (ws : List ℕ) → 4 ≤ length ws → word ws 0 ∷ word ws 1 ∷ word ws 2 ∷ word ws 3 ∷ drop 4 ws ≡ ws
four_words ws h =
    sym (drop-cons ws 0 0 (omega arith) ∙ ap (λ (l : List ℕ). word ws 0 ∷ l) (drop-cons ws 1 0 (omega arith))
    ∙ ap (λ (l : List ℕ). word ws 0 ∷ word ws 1 ∷ l) (drop-cons ws 2 0 (omega arith))
    ∙ ap (λ (l : List ℕ). word ws 0 ∷ word ws 1 ∷ word ws 2 ∷ l) (drop-cons ws 3 0 (omega arith)))

three_words : (ws : List ℕ) → 3 ≤ length ws → word ws 0 ∷ word ws 1 ∷ word ws 2 ∷ drop 3 ws ≡ ws
three_words ws h =
    sym (drop-cons ws 0 0 (omega arith) ∙ ap (λ (l : List ℕ). word ws 0 ∷ l) (drop-cons ws 1 0 (omega arith))
    ∙ ap (λ (l : List ℕ). word ws 0 ∷ word ws 1 ∷ l) (drop-cons ws 2 0 (omega arith)))

no_words : (ws : List ℕ) → T (eqb (length ws) 0) → [] ≡ ws
no_words [] h = refl
no_words (w ∷ ws) h = absurd (omega (arith, eqb→eq (length (w ∷ ws)) 0 h))

-- what `ops_encode` says of the first
record More (n : ℕ) (ws : List ℕ) : Type 0 where
  pub long : 4 ≤ length ws
  pub first : T (op_encodes (word ws 0) (word ws 1) (word ws 2) (word ws 3))
  pub last : T (not (ends_kind (word ws 0)) || eqb n 0)
  pub rest : T (ops_encode n (drop 4 ws))

more : (n : ℕ) (ws : List ℕ) → T (ops_encode (suc n) ws) → More n ws
unfolding ops_encode
more n ws h =
    let a = leb 4 (length ws) in
    let b = op_encodes (word ws 0) (word ws 1) (word ws 2) (word ws 3) in
    let c = not (ends_kind (word ws 0)) || eqb n 0 in
    let d = ops_encode n (drop 4 ws) in
    let h₁ = and_r a (b && (c && d)) h in
    let h₂ = and_r b (c && d) h₁ in
    record { long = leb→le 4 (length ws) (and_l a (b && (c && d)) h); first = and_l b (c && d) h₁; last = and_l c d h₂; rest = and_r c d h₂ }

-- what the list of the bytes is
record Reads (n : ℕ) (ws : List ℕ) (cs : List (List ℕ)) : Type 0 where
  pub words : op_words cs ≡ ws
  pub count : length cs ≡ n
  pub wholes : all whole cs ≡ true

none_left : (cs : List (List ℕ)) → length cs ≡ 0 → cs ≡ []
none_left [] e = refl
none_left (c ∷ cs) e = absurd (omega (arith, e))

-- behind a code that ends the list there is none
behind_end : (t : Bool) (n : ℕ) (cs : List (List ℕ)) → T (not t || eqb n 0) → length cs ≡ n → cond t [] cs ≡ cs
behind_end true n cs h e = sym (none_left cs (e ∙ eqb→eq n 0 h))
behind_end false n cs h e = refl

-- the codes of the bytes are the operations
ops_read : (n : ℕ) (ws : List ℕ) → T (ops_encode n ws) → Reads n ws (list (ops_bytes n ws))
unfolding ops_bytes ops_encode op_words
ops_read zero ws h = rw list_none (record { words = no_words ws h; count = refl; wholes = refl })
ops_read (suc n) ws h = go (ops_read n (drop 4 ws) m.rest)
  where
    m : More n ws
    m = more n ws h

    bytes : List ℕ
    bytes = op_bytes (word ws 0) (word ws 1) (word ws 2) (word ws 3)

    rest : List ℕ
    rest = ops_bytes n (drop 4 ws)

    x : Encoded (word ws 0) (word ws 1) (word ws 2) (word ws 3) bytes
    x = op_encoded (word ws 0) (word ws 1) (word ws 2) (word ws 3) m.first

    codes_are : length (list rest) ≡ n → list (bytes ++ rest) ≡ (bytes ++ rest) ∷ list rest
    codes_are e =
        list_first (bytes ++ rest) (omega (arith, x.some, length-append bytes rest))
        ∙ ap (λ (j : ℕ). (bytes ++ rest) ∷ cond (ends (operation_at (bytes ++ rest))) [] (list (drop j (bytes ++ rest)))) (x.size rest)
        ∙ ap (λ (l : List ℕ). (bytes ++ rest) ∷ cond (ends (operation_at (bytes ++ rest))) [] (list l)) (drop-append_seam bytes rest)
        ∙ ap (λ (l : List ℕ). (bytes ++ rest) ∷ cond (ends_kind (get_or l 0 0)) [] (list rest)) (x.is rest)
        ∙ ap (λ (cs : List (List ℕ)). (bytes ++ rest) ∷ cs) (behind_end (ends_kind (word ws 0)) n (list rest) m.last e)

    go : Reads n (drop 4 ws) (list rest) → Reads (suc n) ws (list (bytes ++ rest))
    go ih = rw (codes_are ih.count) (record {
      words =
          ap (λ (l : List ℕ). l ++ op_words (list rest)) (x.is rest)
          ∙ ap (λ (l : List ℕ). word ws 0 ∷ word ws 1 ∷ word ws 2 ∷ word ws 3 ∷ l) ih.words ∙ four_words ws m.long;
      count = ap suc ih.count;
      wholes =
          ap (λ (t : Bool). t && all whole (list rest))
          (le-leb (size_at (bytes ++ rest)) (length (bytes ++ rest)) (omega (arith, x.size rest, length-append bytes rest))) ∙ ih.wholes;
    })

-- ---- decode (encode b) ≡ b

-- what `encodable` says
record Encodes (ws : List ℕ) : Type 0 where
  pub long : 3 ≤ length ws
  pub few : leb (word ws 2) 1024 ≡ true
  pub reads : Reads (word ws 2) (drop 3 ws) (list (encode ws))

encodes : (ws : List ℕ) → T (encodable ws) → Encodes ws
unfolding encodable encode
encodes ws h =
    let k = and_r (leb 3 (length ws)) (leb (word ws 2) 1024 && ops_encode (word ws 2) (drop 3 ws)) h in
    record {
      long = leb→le 3 (length ws) (and_l (leb 3 (length ws)) (leb (word ws 2) 1024 && ops_encode (word ws 2) (drop 3 ws)) h);
      few = is_true (leb (word ws 2) 1024) (and_l (leb (word ws 2) 1024) (ops_encode (word ws 2) (drop 3 ws)) k);
      reads = ops_read (word ws 2) (drop 3 ws) (and_r (leb (word ws 2) 1024) (ops_encode (word ws 2) (drop 3 ws)) k);
    }

none_refused : (ws : List ℕ) → T (encodable ws) → arm_number (encode ws) ≡ 0
unfolding arm_number
none_refused ws h = let q = encodes ws h in rw (q.reads.wholes, q.reads.count, q.few) refl

body_read : (ws : List ℕ) → T (encodable ws) → arm_body (word ws 0) (word ws 1) (encode ws) ≡ ws
unfolding arm_body
body_read ws h = let q = encodes ws h in rw (q.reads.count, q.reads.words) (three_words ws q.long)

-- decoding the codes of a body with its address and size, in a room of its length, fills in the body
pub decode_encode : (ws : List ℕ) → T (encodable ws) → decoded (encode ws) (word ws 0) (word ws 1) (length ws) ≡ record { number = 0; placed = ws }
unfolding decoded
decode_encode ws h = rw (none_refused ws h, body_read ws h, le-ltb (length ws) (length ws) (omega arith))

-- ---- and bodies are encoded

-- allocations of each size, saves of each kind by codes of one and two bytes and by save_any_reg, and what has no number
sample : List ℕ
sample =
    4096 ∷ 64 ∷ 17 ∷ 1 ∷ 0 ∷ 0 ∷ 16 ∷ 1 ∷ 0 ∷ 0 ∷ 4112 ∷ 1 ∷ 0 ∷ 0 ∷ 1052688 ∷ 2 ∷ 0 ∷ 21 ∷ 16 ∷ 3 ∷ 0 ∷ 21 ∷ 24 ∷ 2 ∷ 1 ∷ 10 ∷ 16 ∷ 4 ∷ 0 ∷ 29 ∷ 16 ∷ 4 ∷ 0 ∷ 21 ∷ 16
    ∷ 5 ∷ 0 ∷ 19 ∷ 16 ∷ 5 ∷ 0 ∷ 29 ∷ 16 ∷ 5 ∷ 1 ∷ 10 ∷ 24 ∷ 6 ∷ 0 ∷ 23 ∷ 16 ∷ 2 ∷ 0 ∷ 5 ∷ 24 ∷ 3 ∷ 2 ∷ 5 ∷ 64 ∷ 7 ∷ 0 ∷ 0 ∷ 0 ∷ 8 ∷ 0 ∷ 0 ∷ 0 ∷ 9 ∷ 0 ∷ 0 ∷ 0 ∷ []

sample_bytes : List ℕ
sample_bytes =
    1 ∷ 193 ∷ 1 ∷ 224 ∷ 1 ∷ 1 ∷ 1 ∷ 208 ∷ 130 ∷ 212 ∷ 66 ∷ 220 ∷ 130 ∷ 66 ∷ 200 ∷ 130 ∷ 34 ∷ 129 ∷ 218 ∷ 130 ∷ 214 ∷ 130 ∷ 231 ∷ 5 ∷ 3 ∷ 231 ∷ 37 ∷ 131 ∷ 230
    ∷ 227 ∷ 228 ∷ []

encodes_sample : T (encodable sample && eqw (encode sample) sample_bytes)
unfolding sample sample_bytes encodable encode ops_encode op_encodes ops_bytes op_bytes alloc_bytes save_bytes save_pre_bytes pair_bytes pair_pre_bytes
encodes_sample = tt
