-- The unwind codes of an ARM64 image's .xdata record to the words of an ARM64 body (document 02, request 3), by Microsoft's page on ARM64 exception
-- handling. A byte that is missing reads 0.
use Rattle.std.specs.Prelude.{Bool, true, false, cond, ◌&&◌, ◌||◌, List, [], ◌∷◌, ◌++◌, ℕ, zero, suc, ◌+◌, ◌*◌, ◌/◌, ◌%◌, ◌^◌, length, get_or, drop, eqb, leb}
use Prim.Native.String.{String}
use Rattle.text.specs.Text.{ascii}
use Rattle.text.specs.Tests.{all}
use Rattle.fill.specs.Fill.{Fill, refused, roomed}
use Rattle.arm64.specs.declared.Op.{Op}
use Rattle.arm64.specs.declared.Op.TheVariants.{AllocStack, SaveReg, SaveRegPreindexed, SaveRegPair, SaveRegPairPreindexed, SaveLrPair, SaveNext, Other, End, Undecodable}
use Rattle.arm64.specs.Arm64.{words_of}

-- An unwind code becomes an operation of an ARM64 body. `Other` is a code that the page names and that has no kind of its own, `End` the end of the
-- list, `Undecodable` a code that is reserved, for a custom stack, or not defined.

-- ---- save_any_reg, 11100111'0pxrrrrr'ffoooooo: second byte s, third byte t

-- the bytes of a unit: 16 for a pair (p), where pre-indexed (x) and for a q register (f = 2), else 8
abbrev pub any_reg_unit : Bool → Bool → ℕ → ℕ
any_reg_unit p x f = cond (p || x || eqb f 2) 16 8

-- the offset, in bytes: o units, and one more where pre-indexed
abbrev pub any_reg_offset : Bool → Bool → ℕ → ℕ → ℕ
any_reg_offset p x f o = any_reg_unit p x f * (o + cond x 1 0)

-- the save of such a register at an offset
abbrev pub any_save : Bool → Bool → ℕ → ℕ → ℕ → Op
any_save p x f r v = cond p (cond x (SaveRegPairPreindexed f r v) (SaveRegPair f r v)) (cond x (SaveRegPreindexed f r v) (SaveReg f r v))

-- f = 3: save_zreg 0oo0rrrr'11oooooo and save_preg 0oo1rrrr'11oooooo, for scalable registers; of the latter P0 to P3 are reserved
abbrev pub scalable : ℕ → Op
scalable s = cond (eqb (s / 4 % 8) 4) Undecodable Other

-- bit 7 of the second byte is reserved
unfoldable pub any_reg : ℕ → ℕ → Op
any_reg s t =
    let p = eqb (s / 64) 1 in
    let x = eqb (s / 32 % 2) 1 in
    let f = t / 64 in
    cond (leb 128 s) Undecodable (cond (eqb f 3) (scalable s) (any_save p x f (s % 32) (any_reg_offset p x f (t % 64))))

-- ---- the page's table

-- a code: the bits of its bytes as the page writes them, the high one first; its bytes; what it becomes by the numbers X and Z at the letters x and z.
-- A bit that is not read is a dash.
pub record Code : Type 0 where
  pub pattern : String
  pub size : ℕ
  pub becomes : ℕ → ℕ → Op

abbrev pub code : String → ℕ → (ℕ → ℕ → Op) → Code
code p n f = record { pattern = p; size = n; becomes = f }

unfoldable pub codes : List Code
codes =
    code "000xxxxx" 1 (λ x z. AllocStack (16 * x))  -- alloc_s
    ∷ code "001zzzzz" 1 (λ x z. SaveRegPairPreindexed 0 19 (8 * z))  -- save_r19r20_x
    ∷ code "01zzzzzz" 1 (λ x z. SaveRegPair 0 29 (8 * z))  -- save_fplr
    ∷ code "10zzzzzz" 1 (λ x z. SaveRegPairPreindexed 0 29 (8 * (z + 1)))  -- save_fplr_x
    ∷ code "11000xxxxxxxxxxx" 2 (λ x z. AllocStack (16 * x))  -- alloc_m
    ∷ code "110010xxxxzzzzzz" 2 (λ x z. SaveRegPair 0 (19 + x) (8 * z))  -- save_regp
    ∷ code "110011xxxxzzzzzz" 2 (λ x z. SaveRegPairPreindexed 0 (19 + x) (8 * (z + 1)))  -- save_regp_x
    ∷ code "110100xxxxzzzzzz" 2 (λ x z. SaveReg 0 (19 + x) (8 * z))  -- save_reg
    ∷ code "1101010xxxxzzzzz" 2 (λ x z. SaveRegPreindexed 0 (19 + x) (8 * (z + 1)))  -- save_reg_x
    ∷ code "1101011xxxzzzzzz" 2 (λ x z. SaveLrPair (19 + 2 * x) (8 * z))  -- save_lrpair
    ∷ code "1101100xxxzzzzzz" 2 (λ x z. SaveRegPair 1 (8 + x) (8 * z))  -- save_fregp
    ∷ code "1101101xxxzzzzzz" 2 (λ x z. SaveRegPairPreindexed 1 (8 + x) (8 * (z + 1)))  -- save_fregp_x
    ∷ code "1101110xxxzzzzzz" 2 (λ x z. SaveReg 1 (8 + x) (8 * z))  -- save_freg
    ∷ code "11011110xxxzzzzz" 2 (λ x z. SaveRegPreindexed 1 (8 + x) (8 * (z + 1)))  -- save_freg_x
    ∷ code "11011111--------" 2 (λ x z. Other)  -- alloc_z
    ∷ code "11100000xxxxxxxxxxxxxxxxxxxxxxxx" 4 (λ x z. AllocStack (16 * x))  -- alloc_l
    ∷ code "11100001" 1 (λ x z. Other)  -- set_fp
    ∷ code "11100010--------" 2 (λ x z. Other)  -- add_fp
    ∷ code "11100011" 1 (λ x z. Other)  -- nop
    ∷ code "11100100" 1 (λ x z. End)  -- end
    ∷ code "11100101" 1 (λ x z. End)  -- end_c
    ∷ code "11100110" 1 (λ x z. SaveNext)  -- save_next
    ∷ code "11100111xxxxxxxxzzzzzzzz" 3 any_reg  -- save_any_reg, save_zreg, save_preg
    ∷ code "11101000" 1 (λ x z. Undecodable)  -- custom stack: MSFT_OP_TRAP_FRAME
    ∷ code "11101001" 1 (λ x z. Undecodable)  -- MSFT_OP_MACHINE_FRAME
    ∷ code "11101010" 1 (λ x z. Undecodable)  -- MSFT_OP_CONTEXT
    ∷ code "11101011" 1 (λ x z. Undecodable)  -- MSFT_OP_EC_CONTEXT
    ∷ code "11101100" 1 (λ x z. Undecodable)  -- MSFT_OP_CLEAR_UNWOUND_TO_CALL
    ∷ code "11101101" 1 (λ x z. Undecodable)  -- reserved
    ∷ code "1110111-" 1 (λ x z. Undecodable)  -- reserved
    ∷ code "11110---" 1 (λ x z. Undecodable)  -- reserved
    ∷ code "11111000--------" 2 (λ x z. Undecodable)  -- reserved
    ∷ code "11111001----------------" 3 (λ x z. Undecodable)  -- reserved
    ∷ code "11111010------------------------" 4 (λ x z. Undecodable)  -- reserved
    ∷ code "11111011--------------------------------" 5 (λ x z. Undecodable)  -- reserved
    ∷ code "11111100" 1 (λ x z. Other)  -- pac_sign_lr
    ∷ code "11111101" 1 (λ x z. Undecodable)  -- reserved
    ∷ code "1111111-" 1 (λ x z. Undecodable)  -- reserved
    ∷ []

-- ---- how a pattern is read

-- a letter 0 or 1 stands for that bit, any other for both
abbrev pub bit_fits : ℕ → ℕ → Bool
bit_fits c v = cond (eqb c 48) (eqb v 0) (cond (eqb c 49) (eqb v 1) true)

-- the bits of b from bit k - 1 down, and the first k letters
unfoldable pub bits_fit : ℕ → List ℕ → ℕ → Bool
bits_fit zero p b = true
bits_fit (suc k) [] b = false
bits_fit (suc k) (c ∷ p) b = bit_fits c (b / 2 ^ k % 2) && bits_fit k p b

-- a first byte fits a code's first eight bits
abbrev pub fits : Code → ℕ → Bool
fits c b = bits_fit 8 (ascii c.pattern) b

-- the code of a first byte: the first that fits
unfoldable pub find : List Code → ℕ → Code
find [] b = code "--------" 1 (λ x z. Undecodable)
find (c ∷ cs) b = cond (fits c b) c (find cs b)

abbrev pub code_of : ℕ → Code
code_of b = find codes b

-- how often a letter stands in a pattern
unfoldable pub count : ℕ → List ℕ → ℕ
count c [] = 0
count c (d ∷ p) = cond (eqb c d) 1 0 + count c p

-- how many letters stand behind its last place
unfoldable pub behind : ℕ → List ℕ → ℕ
behind c [] = 0
behind c (d ∷ p) = cond (eqb (count c p) 0) (length p) (behind c p)

-- the number at a letter, where the code's bytes make the number n
abbrev pub field : ℕ → List ℕ → ℕ → ℕ
field c p n = n / 2 ^ behind c p % 2 ^ count c p

-- the letters x and z
abbrev pub X : ℕ
X = 120

abbrev pub Z : ℕ
Z = 122

-- the operation of a code whose bytes make the number n
unfoldable pub meant : Code → ℕ → Op
meant c n = c.becomes (field X (ascii c.pattern) n) (field Z (ascii c.pattern) n)

abbrev pub byte : List ℕ → ℕ → ℕ
byte bs i = get_or bs i 0

-- the first n bytes as one number, the high one first
unfoldable pub number : ℕ → List ℕ → ℕ
number zero bs = 0
number (suc n) bs = 256 * number n bs + byte bs n

-- ---- the code that bs starts with

abbrev pub size_at : List ℕ → ℕ
size_at bs = (code_of (byte bs 0)).size

unfoldable pub operation_at : List ℕ → Op
operation_at bs = meant (code_of (byte bs 0)) (number (size_at bs) bs)

-- all of its bytes are there
abbrev pub whole : List ℕ → Bool
whole bs = leb (size_at bs) (length bs)

-- kinds 9 and 10 end the list
abbrev pub ends_kind : ℕ → Bool
ends_kind k = eqb k 9 || eqb k 10

abbrev pub ends : Op → Bool
ends o = ends_kind (get_or (words_of o) 0 0)

-- ---- the list

-- the codes one after the other, each as what stands from it on. The list ends behind one that ends it, or where the bytes end. Each code has a byte,
-- so that there are at most k, from k = length bs on
unfoldable pub list_in : ℕ → List ℕ → List (List ℕ)
list_in zero bs = []
list_in (suc k) [] = []
list_in (suc k) (b ∷ bs) = (b ∷ bs) ∷ cond (ends (operation_at (b ∷ bs))) [] (list_in k (drop (size_at (b ∷ bs)) (b ∷ bs)))

abbrev pub list : List ℕ → List (List ℕ)
list bs = list_in (length bs) bs

-- ---- the body's words

-- kind, letter, register, value of each
unfoldable pub op_words : List (List ℕ) → List ℕ
op_words [] = []
op_words (c ∷ cs) = words_of (operation_at c) ++ op_words cs

-- address and size as the call gives them, the operation count, the operations
unfoldable pub arm_body : ℕ → ℕ → List ℕ → List ℕ
arm_body address size bs = address ∷ size ∷ length (list bs) ∷ op_words (list bs)

-- ---- refusals

-- 12 where the bytes end inside a code, then 4 above 1,024 operations
unfoldable pub arm_number : List ℕ → ℕ
arm_number bs = cond (all whole (list bs)) (cond (leb (length (list bs)) 1024) 0 4) 12

-- and last 9: what the call comes to in a room of that many words
unfoldable pub decoded : List ℕ → ℕ → ℕ → ℕ → Fill ℕ
decoded bs address size room = cond (eqb (arm_number bs) 0) (roomed room (arm_body address size bs)) (refused (arm_number bs))

-- what to unfold where bodies are to compute
unfoldable pub UnwindCodes·open : Type 0
unfolding words_of any_reg codes bits_fit find count behind meant number operation_at list_in op_words arm_body arm_number decoded
UnwindCodes·open = Unit {0}
