-- Numbers as text (document 01, Numbers): lower-case hexadecimal and decimal without leading zeros, 0 is "0"; a sign stands before a negative.
use Rattle.std.specs.Prelude.{ℕ, zero, suc, pred, ◌+◌, ◌-◌, ◌*◌, ◌/◌, ◌%◌, true, false, cond, List, [], ◌∷◌, ◌++◌, ltb, eqb, ℤ, pos, negsuc}
pub mod Laws

-- the byte of a digit below 16: '0' to '9', then 'a' to 'f'
unfoldable pub digit : ℕ → ℕ
digit d = cond (ltb d 10) (48 + d) (87 + d)

-- n in base b, most significant digit first; f bounds the digits behind the first
unfoldable pub digits_in : ℕ → ℕ → ℕ → List ℕ
digits_in b zero n = digit n ∷ []
digits_in b (suc f) n = elim (ltb n b) [ true ↦ digit n ∷ [] | false ↦ digits_in b f (n / b) ++ (digit (n % b) ∷ []) ]

-- n in base b: n has at most n + 1 digits
unfoldable pub digits : ℕ → ℕ → List ℕ
digits b n = digits_in b n n

-- 01, Numbers: lower-case hexadecimal without leading zeros
unfoldable pub hex : ℕ → List ℕ
hex n = digits 16 n

-- the magnitude of a signed decimal
unfoldable pub decimal : ℕ → List ℕ
decimal n = digits 10 n

-- 45 is '-'
unfoldable pub signed : ℤ → List ℕ
signed (pos n) = decimal n
signed (negsuc n) = 45 ∷ decimal (suc n)

-- ---- the numbers, read back

-- the value of a digit, either base
unfoldable pub undigit : ℕ → ℕ
undigit c = cond (ltb c 97) (c - 48) (c - 87)

-- what the bytes say in base b behind digits whose value is a
unfoldable pub value : ℕ → ℕ → List ℕ → ℕ
value b a [] = a
value b a (c ∷ cs) = value b (a * b + undigit c) cs

-- a number read back from its digits
unfoldable pub read_hex : List ℕ → ℕ
read_hex cs = value 16 0 cs

-- the same in decimal
unfoldable pub read_decimal : List ℕ → ℕ
read_decimal cs = value 10 0 cs

-- and with a sign before it
unfoldable pub read_signed : List ℕ → ℤ
read_signed [] = pos 0
read_signed (c ∷ cs) = cond (eqb c 45) (negsuc (pred (read_decimal cs))) (pos (read_decimal (c ∷ cs)))

-- what to unfold where numbers are to compute: `unfolding Digits·open`
unfoldable pub Digits·open : Type 0
unfolding digit digits_in digits hex decimal signed undigit value read_hex read_decimal read_signed
Digits·open = Unit {0}
