-- The table by a first byte, and the forms that the code's loops walk.
use Rattle.std.specs.Prelude.{◌≡◌, refl, Bool, true, false, not, cond, ◌&&◌, ◌||◌, List, [], ◌∷◌, ℕ, zero, suc, ◌+◌, ◌-◌, ◌*◌, ◌/◌, ◌%◌, ◌^◌, ◌≤◌, ◌<◌, T, length, get_or, drop, eqb, leb}
use Rattle.std.proofs.Common.{sym, ap, ◌∙◌, arith, subst, eqb→eq, leb→le, le-leb, eq-eqb, ne_eqb, get_or-drop, length-append, length-drop, drop_of_length-le, drop-drop}
use borrow.Author.Tests.{lt-leb}
use Rattle.text.specs.Text.{ascii}
use Rattle.text.specs.Tests.{is_false, and_l, and_r, all, tests, at, eqw, eqw→eq}
use Rattle.arm64.specs.declared.Op.{Op}
use Rattle.arm64.specs.declared.Op.TheVariants.{AllocStack, SaveReg, SaveRegPreindexed, SaveRegPair, SaveRegPairPreindexed, SaveLrPair, SaveNext, Other, End, Undecodable}
use Rattle.arm64.specs.Arm64.{words_of}
use Rattle.arm64.specs.Index.{op_at, words_read, words_length}
use Rattle.unwind_codes.specs.UnwindCodes.{scalable, any_reg, any_reg_offset, any_save, Code, code, codes, fits, bits_fit, find, code_of, count, behind, X, Z, meant, number, byte}
use Rattle.unwind_codes.specs.UnwindCodes.{size_at, operation_at, ends, list_in, list, op_words}

-- ---- what the table is held to

-- how many codes a first byte fits
abbrev pub fitting : List Code → ℕ → ℕ
fitting [] b = 0
fitting (c ∷ cs) b = cond (fits c b) 1 0 + fitting cs b

all_fit : T (tests 256 (λ b. eqb (fitting codes b) 1))
unfolding codes bits_fit
all_fit = tt

-- the patterns cover all 256 first bytes, and none twice
pub one_each : (b : ℕ) → b < 256 → fitting codes b ≡ 1
one_each b h = eqb→eq (fitting codes b) 1 (at 256 (λ c. eqb (fitting codes c) 1) all_fit b h)

-- a code has a byte for eight bits of its pattern
pub sizes : T (all (λ c. eqb (length (ascii c.pattern)) (8 * c.size)) codes)
unfolding codes
sizes = tt

-- how many letters stand before the first place of a letter
abbrev pub before : ℕ → List ℕ → ℕ
before c [] = 0
before c (d ∷ p) = cond (eqb c d) 0 (suc (before c p))

-- a letter's places are one behind the other
abbrev pub together : ℕ → List ℕ → Bool
together c p = eqb (count c p) 0 || eqb (before c p + count c p + behind c p) (length p)

pub fields : T (all (λ c. together X (ascii c.pattern) && together Z (ascii c.pattern)) codes)
unfolding codes count behind
fields = tt

-- ---- the code of a first byte

-- where it fits none
abbrev none : Code
none = code "--------" 1 (λ x z. Undecodable)

-- which one it is
abbrev index : List Code → ℕ → ℕ
index [] b = 0
index (c ∷ cs) b = cond (fits c b) 0 (suc (index cs b))

find_index : (cs : List Code) (b : ℕ) → find cs b ≡ get_or cs (index cs b) none
unfolding find
find_index [] b = refl
find_index (c ∷ cs) b = go (fits c b) (find_index cs b)
  where
    go : (t : Bool) → find cs b ≡ get_or cs (index cs b) none → cond t c (find cs b) ≡ get_or (c ∷ cs) (cond t 0 (suc (index cs b))) none
    go true h = refl
    go false h = h

-- code k is that of the n first bytes from lo on
range : (lo n k : ℕ) → T (tests n (λ i. eqb (index codes (lo + i)) k)) → (b : ℕ) → lo ≤ b → b < lo + n → code_of b ≡ get_or codes k none
range lo n k h b p q =
    let e : lo + (b - lo) ≡ b = omega arith in
    let i : index codes b ≡ k =
    subst (λ (j : ℕ). index codes j ≡ k) e (eqb→eq (index codes (lo + (b - lo))) k (at n (λ i. eqb (index codes (lo + i)) k) h (b - lo) (omega arith))) in
    find_index codes b ∙ ap (λ (j : ℕ). get_or codes j none) i

op_same : (f : ℕ → ℕ → Op) {r s v w : ℕ} → r ≡ s → v ≡ w → f r v ≡ f s w
op_same f e g = rw (e, g)

-- ---- each code by its first byte b, where its bytes make the number n

by_range : (lo m k : ℕ) → T (tests m (λ i. eqb (index codes (lo + i)) k)) → (b n : ℕ) → lo ≤ b → b < lo + m → meant (get_or codes k none) n ≡ meant (code_of b) n
by_range lo m k h b n p q = ap (λ (c : Code). meant c n) (sym (range lo m k h b p q))

pub alloc_s : (b n : ℕ) → b < 32 → AllocStack (16 * (n % 32)) ≡ meant (code_of b) n
unfolding codes bits_fit meant count behind
alloc_s b n h = ap AllocStack (omega arith) ∙ by_range 0 32 0 tt b n (omega arith) (omega arith)

pub save_r19r20_x : (b n : ℕ) → 32 ≤ b → b < 64 → SaveRegPairPreindexed 0 19 (8 * (n % 32)) ≡ meant (code_of b) n
unfolding codes bits_fit meant count behind
save_r19r20_x b n p q = op_same (SaveRegPairPreindexed 0) refl (omega arith) ∙ by_range 32 32 1 tt b n p q

pub save_fplr : (b n : ℕ) → 64 ≤ b → b < 128 → SaveRegPair 0 29 (8 * (n % 64)) ≡ meant (code_of b) n
unfolding codes bits_fit meant count behind
save_fplr b n p q = op_same (SaveRegPair 0) refl (omega arith) ∙ by_range 64 64 2 tt b n p q

pub save_fplr_x : (b n : ℕ) → 128 ≤ b → b < 192 → SaveRegPairPreindexed 0 29 (8 * (n % 64) + 8) ≡ meant (code_of b) n
unfolding codes bits_fit meant count behind
save_fplr_x b n p q = op_same (SaveRegPairPreindexed 0) refl (omega arith) ∙ by_range 128 64 3 tt b n p q

pub alloc_m : (b n : ℕ) → 192 ≤ b → b < 200 → AllocStack (16 * (n % 2048)) ≡ meant (code_of b) n
unfolding codes bits_fit meant count behind
alloc_m b n p q = ap AllocStack (omega arith) ∙ by_range 192 8 4 tt b n p q

pub save_regp : (b n : ℕ) → 200 ≤ b → b < 204 → SaveRegPair 0 (19 + n / 64 % 16) (8 * (n % 64)) ≡ meant (code_of b) n
unfolding codes bits_fit meant count behind
save_regp b n p q = op_same (SaveRegPair 0) refl (omega arith) ∙ by_range 200 4 5 tt b n p q

pub save_regp_x : (b n : ℕ) → 204 ≤ b → b < 208 → SaveRegPairPreindexed 0 (19 + n / 64 % 16) (8 * (n % 64) + 8) ≡ meant (code_of b) n
unfolding codes bits_fit meant count behind
save_regp_x b n p q = op_same (SaveRegPairPreindexed 0) refl (omega arith) ∙ by_range 204 4 6 tt b n p q

pub save_reg : (b n : ℕ) → 208 ≤ b → b < 212 → SaveReg 0 (19 + n / 64 % 16) (8 * (n % 64)) ≡ meant (code_of b) n
unfolding codes bits_fit meant count behind
save_reg b n p q = op_same (SaveReg 0) refl (omega arith) ∙ by_range 208 4 7 tt b n p q

pub save_reg_x : (b n : ℕ) → 212 ≤ b → b < 214 → SaveRegPreindexed 0 (19 + n / 32 % 16) (8 * (n % 32) + 8) ≡ meant (code_of b) n
unfolding codes bits_fit meant count behind
save_reg_x b n p q = op_same (SaveRegPreindexed 0) refl (omega arith) ∙ by_range 212 2 8 tt b n p q

pub save_lrpair : (b n : ℕ) → 214 ≤ b → b < 216 → SaveLrPair (19 + 2 * (n / 64 % 8)) (8 * (n % 64)) ≡ meant (code_of b) n
unfolding codes bits_fit meant count behind
save_lrpair b n p q = op_same SaveLrPair refl (omega arith) ∙ by_range 214 2 9 tt b n p q

pub save_fregp : (b n : ℕ) → 216 ≤ b → b < 218 → SaveRegPair 1 (8 + n / 64 % 8) (8 * (n % 64)) ≡ meant (code_of b) n
unfolding codes bits_fit meant count behind
save_fregp b n p q = op_same (SaveRegPair 1) refl (omega arith) ∙ by_range 216 2 10 tt b n p q

pub save_fregp_x : (b n : ℕ) → 218 ≤ b → b < 220 → SaveRegPairPreindexed 1 (8 + n / 64 % 8) (8 * (n % 64) + 8) ≡ meant (code_of b) n
unfolding codes bits_fit meant count behind
save_fregp_x b n p q = op_same (SaveRegPairPreindexed 1) refl (omega arith) ∙ by_range 218 2 11 tt b n p q

pub save_freg : (b n : ℕ) → 220 ≤ b → b < 222 → SaveReg 1 (8 + n / 64 % 8) (8 * (n % 64)) ≡ meant (code_of b) n
unfolding codes bits_fit meant count behind
save_freg b n p q = op_same (SaveReg 1) refl (omega arith) ∙ by_range 220 2 12 tt b n p q

pub save_freg_x : (b n : ℕ) → b ≡ 222 → SaveRegPreindexed 1 (8 + n / 32 % 8) (8 * (n % 32) + 8) ≡ meant (code_of b) n
unfolding codes bits_fit meant count behind
save_freg_x b n e = op_same (SaveRegPreindexed 1) refl (omega arith) ∙ by_range 222 1 13 tt b n (omega arith) (omega arith)

pub alloc_z : (b n : ℕ) → b ≡ 223 → Other ≡ meant (code_of b) n
unfolding codes bits_fit meant count behind
alloc_z b n e = by_range 223 1 14 tt b n (omega arith) (omega arith)

pub alloc_l : (b n : ℕ) → b ≡ 224 → AllocStack (16 * (n % 16777216)) ≡ meant (code_of b) n
unfolding codes bits_fit meant count behind
alloc_l b n e = ap AllocStack (omega arith) ∙ by_range 224 1 15 tt b n (omega arith) (omega arith)

pub any_reg_lem : (b n : ℕ) → b ≡ 231 → any_reg (n / 256 % 256) (n % 256) ≡ meant (code_of b) n
unfolding codes bits_fit meant count behind
any_reg_lem b n e =
    let t : n % 256 ≡ n / 1 % 256 = omega arith in
    ap (λ (m : ℕ). any_reg (n / 256 % 256) m) t ∙ by_range 231 1 22 tt b n (omega arith) (omega arith)

-- ---- codes without a number

abbrev same_op : Op → Op → Bool
same_op o q = eqw (words_of o) (words_of q)

same_op_lem : (o q : Op) → T (same_op o q) → o ≡ q
same_op_lem o q h = sym (words_read o) ∙ ap op_at (eqw→eq (words_of o) (words_of q) h) ∙ words_read q

-- the m first bytes from lo on all become o, whatever the number is
becomes : (lo m : ℕ) (o : Op) (n : ℕ) → T (tests m (λ i. same_op o (meant (code_of (lo + i)) n))) → (b : ℕ) → lo ≤ b → b < lo + m → o ≡ meant (code_of b) n
becomes lo m o n h b p q =
    let e : lo + (b - lo) ≡ b = omega arith in
    subst (λ (j : ℕ). o ≡ meant (code_of j) n) e
    (same_op_lem o (meant (code_of (lo + (b - lo))) n) (at m (λ i. same_op o (meant (code_of (lo + i)) n)) h (b - lo) (omega arith)))

-- set_fp, add_fp, nop
pub no_kind : (b n : ℕ) → 225 ≤ b → b < 228 → Other ≡ meant (code_of b) n
unfolding words_of codes bits_fit find meant
no_kind b n p q = becomes 225 3 Other n tt b p q

-- end, end_c
pub an_end : (b n : ℕ) → 228 ≤ b → b < 230 → End ≡ meant (code_of b) n
unfolding words_of codes bits_fit find meant
an_end b n p q = becomes 228 2 End n tt b p q

pub save_next : (b n : ℕ) → b ≡ 230 → SaveNext ≡ meant (code_of b) n
unfolding words_of codes bits_fit find meant
save_next b n e = becomes 230 1 SaveNext n tt b (omega arith) (omega arith)

-- custom stack and reserved codes
pub reserved : (b n : ℕ) → 232 ≤ b → b < 252 → Undecodable ≡ meant (code_of b) n
unfolding words_of codes bits_fit find meant
reserved b n p q = becomes 232 20 Undecodable n tt b p q

pub pac_sign_lr : (b n : ℕ) → b ≡ 252 → Other ≡ meant (code_of b) n
unfolding words_of codes bits_fit find meant
pac_sign_lr b n e = becomes 252 1 Other n tt b (omega arith) (omega arith)

pub reserved_last : (b n : ℕ) → 253 ≤ b → b < 256 → Undecodable ≡ meant (code_of b) n
unfolding words_of codes bits_fit find meant
reserved_last b n p q = becomes 253 3 Undecodable n tt b p q

-- ---- how many bytes

pub size_range : (lo m k : ℕ) → T (tests m (λ i. eqb k (code_of (lo + i)).size)) → (b : ℕ) → lo ≤ b → b < lo + m → k ≡ (code_of b).size
size_range lo m k h b p q =
    let e : lo + (b - lo) ≡ b = omega arith in
    subst (λ (j : ℕ). k ≡ (code_of j).size) e (eqb→eq k (code_of (lo + (b - lo))).size (at m (λ i. eqb k (code_of (lo + i)).size) h (b - lo) (omega arith)))

-- a first byte of so many bytes
pub one : (b : ℕ) → b < 192 → 1 ≡ (code_of b).size
unfolding codes bits_fit find
one b h = size_range 0 192 1 tt b (omega arith) h

pub two : (b : ℕ) → 192 ≤ b → b < 224 → 2 ≡ (code_of b).size
unfolding codes bits_fit find
two b p q = size_range 192 32 2 tt b p q

-- those with more than one from E0 on
abbrev pub longer : ℕ → Bool
longer b = eqb b 224 || (eqb b 226 || (eqb b 231 || (eqb b 248 || (eqb b 249 || (eqb b 250 || eqb b 251)))))

pub others_one : (b : ℕ) → 224 ≤ b → b < 256 → longer b ≡ false → 1 ≡ (code_of b).size
unfolding codes bits_fit find
others_one b p q h =
    let e : 224 + (b - 224) ≡ b = omega arith in
    let t : T (longer b || eqb 1 (code_of b).size) =
    subst (λ (j : ℕ). T (longer j || eqb 1 (code_of j).size)) e (at 32 (λ i. longer (224 + i) || eqb 1 (code_of (224 + i)).size) tt (b - 224) (omega arith)) in
    eqb→eq 1 (code_of b).size (rw h at t)

-- a scalable register's save ends the list where it is reserved
pub ends_scalable : (s : ℕ) → eqb (s / 4 % 8) 4 ≡ ends (scalable s)
unfolding words_of
ends_scalable s = go (eqb (s / 4 % 8) 4)
  where
    go : (t : Bool) → t ≡ ends (cond t Undecodable Other)
    go true = refl
    go false = refl

-- save_any_reg ends the list where it is reserved: by bit 7 of its second byte, or as a scalable register's save
pub any_high : (s t : ℕ) → 128 ≤ s → true ≡ ends (any_reg s t)
unfolding any_reg words_of
any_high s t h = rw (le-leb 128 s h)

pub any_scalable : (s t : ℕ) → s < 128 → t / 64 ≡ 3 → ends (scalable s) ≡ ends (any_reg s t)
unfolding any_reg
any_scalable s t h e = rw (lt-leb 128 s h, eq-eqb (t / 64) 3 e)

pub any_saved : (s t : ℕ) → s < 128 → (t / 64 ≡ 3 → ⊥) → false ≡ ends (any_reg s t)
unfolding any_reg words_of
any_saved s t h n = rw (lt-leb 128 s h, ne_eqb (t / 64) 3 n) (go (eqb (s / 64) 1) (eqb (s / 32 % 2) 1))
  where
    v : ℕ
    v = any_reg_offset (eqb (s / 64) 1) (eqb (s / 32 % 2) 1) (t / 64) (t % 64)

    go : (p x : Bool) → false ≡ ends (any_save p x (t / 64) (s % 32) v)
    go true true = refl
    go true false = refl
    go false true = refl
    go false false = refl

-- a code has a byte at least, and five at most
sizes_fit_lem : (cs : List Code) → T (all (λ c. leb 1 c.size && leb c.size 5) cs) → (b : ℕ) → (1 ≤ (find cs b).size) × ((find cs b).size ≤ 5)
unfolding find
sizes_fit_lem [] h b = (omega arith, omega arith)
sizes_fit_lem (c ∷ cs) h b = go (fits c b) (sizes_fit_lem cs (and_r (leb 1 c.size && leb c.size 5) _ h) b)
  where
    first : T (leb 1 c.size && leb c.size 5)
    first = and_l (leb 1 c.size && leb c.size 5) _ h

    go : (t : Bool) → (1 ≤ (find cs b).size) × ((find cs b).size ≤ 5) → (1 ≤ (cond t c (find cs b)).size) × ((cond t c (find cs b)).size ≤ 5)
    go true ih = (leb→le 1 c.size (and_l (leb 1 c.size) _ first), leb→le c.size 5 (and_r (leb 1 c.size) _ first))
    go false ih = ih

pub size_some : (b : ℕ) → 1 ≤ (code_of b).size
unfolding codes
size_some b = (sizes_fit_lem codes tt b).0

pub size_few : (b : ℕ) → (code_of b).size ≤ 5
unfolding codes
size_few b = (sizes_fit_lem codes tt b).1

-- ---- the code at a place

byte_at : (bs : List ℕ) (i : ℕ) → byte (drop i bs) 0 ≡ get_or bs i 0
byte_at bs i = let z : i + 0 ≡ i = omega arith in get_or-drop i bs 0 0 ∙ ap (λ (j : ℕ). get_or bs j 0) z

pub operation_by : (bs : List ℕ) (i : ℕ) → operation_at (drop i bs) ≡ meant (code_of (get_or bs i 0)) (number (code_of (get_or bs i 0)).size (drop i bs))
unfolding operation_at
operation_by bs i = ap (λ (b : ℕ). meant (code_of b) (number (code_of b).size (drop i bs))) (byte_at bs i)

pub size_by : (bs : List ℕ) (i : ℕ) → size_at (drop i bs) ≡ (code_of (get_or bs i 0)).size
size_by bs i = ap (λ (b : ℕ). (code_of b).size) (byte_at bs i)

-- of two, three and four bytes
pub number_2 : (bs : List ℕ) (i : ℕ) → number 2 (drop i bs) ≡ 256 * get_or bs i 0 + get_or bs (i + 1) 0
unfolding number
number_2 bs i = omega (arith, byte_at bs i, get_or-drop i bs 1 0)

pub number_3 : (bs : List ℕ) (i : ℕ) → number 3 (drop i bs) ≡ 65536 * get_or bs i 0 + 256 * get_or bs (i + 1) 0 + get_or bs (i + 2) 0
unfolding number
number_3 bs i = omega (arith, byte_at bs i, get_or-drop i bs 1 0, get_or-drop i bs 2 0)

pub number_4 : (bs : List ℕ) (i : ℕ) → number 4 (drop i bs) ≡ 16777216 * get_or bs i 0 + number 3 (drop (i + 1) bs)
unfolding number
number_4 bs i =
    let a : i + 1 + 1 ≡ i + 2 = omega arith in
    let b : i + 1 + 2 ≡ i + 3 = omega arith in
    omega (
      arith,
      byte_at bs i,
      get_or-drop i bs 1 0,
      get_or-drop i bs 2 0,
      get_or-drop i bs 3 0,
      number_3 bs (i + 1),
      ap (λ (j : ℕ). get_or bs j 0) a,
      ap (λ (j : ℕ). get_or bs j 0) b,
    )

-- ---- the list

-- with room enough the bound does not matter
list_same : (k m : ℕ) (bs : List ℕ) → length bs ≤ k → length bs ≤ m → list_in k bs ≡ list_in m bs
unfolding list_in
list_same zero zero bs p q = refl
list_same zero (suc m) [] p q = refl
list_same zero (suc m) (b ∷ bs) p q = absurd (omega arith)
list_same (suc k) zero [] p q = refl
list_same (suc k) zero (b ∷ bs) p q = absurd (omega arith)
list_same (suc k) (suc m) [] p q = refl
list_same (suc k) (suc m) (b ∷ bs) p q =
    let s = length-drop (size_at (b ∷ bs)) (b ∷ bs) in
    ap (λ (l : List (List ℕ)). (b ∷ bs) ∷ cond (ends (operation_at (b ∷ bs))) [] l)
    (list_same k m (drop (size_at (b ∷ bs)) (b ∷ bs)) (omega (arith, s, size_some b)) (omega (arith, s, size_some b)))

-- the first code, and those behind it
pub list_first : (bs : List ℕ) → 0 < length bs → list bs ≡ bs ∷ cond (ends (operation_at bs)) [] (list (drop (size_at bs) bs))
unfolding list_in
list_first [] h = absurd (omega arith)
list_first (b ∷ bs) h =
    let s = length-drop (size_at (b ∷ bs)) (b ∷ bs) in
    ap (λ (l : List (List ℕ)). (b ∷ bs) ∷ cond (ends (operation_at (b ∷ bs))) [] l)
    (list_same (length bs) (length (drop (size_at (b ∷ bs)) (b ∷ bs))) (drop (size_at (b ∷ bs)) (b ∷ bs)) (omega (arith, s, size_some b)) (omega arith))

pub list_none : list [] ≡ []
unfolding list_in
list_none = refl

-- the code at i, and those behind it
pub list_at : (bs : List ℕ) (i : ℕ) → i < length bs → list (drop i bs) ≡ drop i bs ∷ cond (ends (operation_at (drop i bs))) [] (list (drop (i + size_at (drop i bs)) bs))
list_at bs i h =
    list_first (drop i bs) (omega (arith, length-drop i bs))
    ∙ ap (λ (l : List ℕ). drop i bs ∷ cond (ends (operation_at (drop i bs))) [] (list l)) (drop-drop (size_at (drop i bs)) i bs)

pub list_end : (bs : List ℕ) (i : ℕ) → length bs ≤ i → list (drop i bs) ≡ []
list_end bs i h = ap (λ (l : List ℕ). list l) (drop_of_length-le bs h) ∙ list_none

pub ops_length : (cs : List (List ℕ)) → length (op_words cs) ≡ 4 * length cs
unfolding op_words
ops_length [] = refl
ops_length (c ∷ cs) = omega (arith, ops_length cs, words_length (operation_at c), length-append (words_of (operation_at c)) (op_words cs))

-- ---- the operation at a place, by its first byte

pub four : (b : ℕ) → b ≡ 224 → 4 ≡ (code_of b).size
unfolding codes bits_fit find
four b e = size_range 224 1 4 tt b (omega arith) (omega arith)

pub three : (b : ℕ) → b ≡ 231 → 3 ≡ (code_of b).size
unfolding codes bits_fit find
three b e = size_range 231 1 3 tt b (omega arith) (omega arith)

module _ (bs : List ℕ) (i : ℕ) where
  by_size : {k : ℕ} → k ≡ (code_of (get_or bs i 0)).size → meant (code_of (get_or bs i 0)) (number k (drop i bs)) ≡ operation_at (drop i bs)
  by_size e = ap (λ (j : ℕ). meant (code_of (get_or bs i 0)) (number j (drop i bs))) e ∙ sym (operation_by bs i)

  pub one_at : get_or bs i 0 < 192 → meant (code_of (get_or bs i 0)) (get_or bs i 0) ≡ operation_at (drop i bs)
  unfolding number
  one_at h =
      let e : get_or bs i 0 ≡ number 1 (drop i bs) = omega (arith, byte_at bs i) in
      ap (λ (n : ℕ). meant (code_of (get_or bs i 0)) n) e ∙ by_size (one (get_or bs i 0) h)

  pub two_at : 192 ≤ get_or bs i 0 → get_or bs i 0 < 224 → meant (code_of (get_or bs i 0)) (256 * get_or bs i 0 + get_or bs (i + 1) 0) ≡ operation_at (drop i bs)
  two_at p q = ap (λ (n : ℕ). meant (code_of (get_or bs i 0)) n) (sym (number_2 bs i)) ∙ by_size (two (get_or bs i 0) p q)

  pub long_at_lem : {v : ℕ} → get_or bs i 0 ≡ 224 → v ≡ number 3 (drop (i + 1) bs) → v < 2 ^ 24 → AllocStack (16 * v) ≡ operation_at (drop i bs)
  long_at_lem {v} e n l =
      let m : v ≡ number 4 (drop i bs) % 16777216 = omega (arith, number_4 bs i) in
      ap (λ (j : ℕ). AllocStack (16 * j)) m ∙ alloc_l (get_or bs i 0) (number 4 (drop i bs)) e ∙ by_size (four (get_or bs i 0) e)

  pub any_at : get_or bs i 0 ≡ 231 → get_or bs (i + 1) 0 < 256 → get_or bs (i + 2) 0 < 256 → any_reg (get_or bs (i + 1) 0) (get_or bs (i + 2) 0) ≡ operation_at (drop i bs)
  any_at e p q =
      let s : get_or bs (i + 1) 0 ≡ number 3 (drop i bs) / 256 % 256 = omega (arith, number_3 bs i) in
      let t : get_or bs (i + 2) 0 ≡ number 3 (drop i bs) % 256 = omega (arith, number_3 bs i) in
      ap (λ (j : ℕ). any_reg j (get_or bs (i + 2) 0)) s ∙ ap (λ (j : ℕ). any_reg (number 3 (drop i bs) / 256 % 256) j) t
      ∙ any_reg_lem (get_or bs i 0) (number 3 (drop i bs)) e ∙ by_size (three (get_or bs i 0) e)

  -- one that has no number
  pub rest_at : {o : Op} → ((n : ℕ) → o ≡ meant (code_of (get_or bs i 0)) n) → o ≡ operation_at (drop i bs)
  rest_at h = h (number (code_of (get_or bs i 0)).size (drop i bs)) ∙ sym (operation_by bs i)

-- ---- which end the list, by the first byte

abbrev alike : Bool → Bool → Bool
alike s t = cond s t (not t)

alike_same : (s t : Bool) → T (alike s t) → s ≡ t
alike_same true true h = refl
alike_same true false h = absurd h
alike_same false true h = absurd h
alike_same false false h = refl

pub ends_early : (b n : ℕ) → b < 228 → ends (meant (code_of b) n) ≡ false
unfolding words_of codes bits_fit find meant
ends_early b n h = is_false (ends (meant (code_of b) n)) (at 228 (λ j. not (ends (meant (code_of j) n))) tt b h)

-- from E4 on all but save_next, save_any_reg and pac_sign_lr
abbrev pub late_ends : ℕ → Bool
late_ends b = not (eqb b 230) && not (eqb b 252)

pub ends_late : (b n : ℕ) → 228 ≤ b → b < 256 → (b ≡ 231 → ⊥) → late_ends b ≡ ends (meant (code_of b) n)
unfolding words_of codes bits_fit find meant
ends_late b n p q x =
    let e : 228 + (b - 228) ≡ b = omega arith in
    let t : T (eqb b 231 || alike (late_ends b) (ends (meant (code_of b) n))) =
    subst (λ (j : ℕ). T (eqb j 231 || alike (late_ends j) (ends (meant (code_of j) n)))) e
    (at 28 (λ i. eqb (228 + i) 231 || alike (late_ends (228 + i)) (ends (meant (code_of (228 + i)) n))) tt (b - 228) (omega arith)) in
    alike_same (late_ends b) (ends (meant (code_of b) n)) (rw (ne_eqb b 231 x) at t)

-- and at a place
pub ends_at : (bs : List ℕ) (i : ℕ) {t : Bool} → ((n : ℕ) → t ≡ ends (meant (code_of (get_or bs i 0)) n)) → t ≡ ends (operation_at (drop i bs))
ends_at bs i h = h (number (code_of (get_or bs i 0)).size (drop i bs)) ∙ ap (λ (o : Op). ends o) (sym (operation_by bs i))
