-- Laws of the digits, once for every base up to 16: they are read back, so a number has one text; they are digits only, at least one, and few.
use Rattle.std.specs.Prelude.{◌≡◌, refl, ℕ, zero, suc, ◌+◌, ◌-◌, ◌*◌, ◌/◌, ◌%◌, ◌^◌, ◌≤◌, ◌<◌, max, List, [], ◌∷◌, ◌++◌, length, ℤ, pos, negsuc, nat_abs}
use Rattle.std.specs.Prelude.{Bool, true, false, not, ◌&&◌, ◌||◌, T, leb, eqb}
use Rattle.std.proofs.Common.{sym, ap, ◌∙◌, subst, arith, length-append, ltb-true, lt-ltb, le-ltb}
use Rattle.std.proofs.Common.{div-add-mod', div-lt_iff_lt-mul, le-div_iff_mul-le, mod-lt, le_refl, le_trans, pow_mono, pow-add, pow-suc, one-mul}
use Rattle.std.proofs.Math.Nat.{div-lt_self, le-mul_of_pos_right, mul_assoc, mul_comm, mul-one, one-le-pow, pow-zero}
use Rattle.std.proofs.Math.Decide.{dec_lt}
use Rattle.std.proofs.lemmas.Nat.{mul-pow}
use Rattle.std.specs.Int.Signed.{lt_z}
use Rattle.text.specs.Text.{ascii, Put}
use Rattle.text.specs.Text.Laws.{◌⨾◌}
use Rattle.text.specs.Tests.{is_false, all, all_append, tests, at, both, and_l}
use Rattle.digits.specs.Digits.{digit, digits_in, digits, hex, decimal, signed, undigit, value, read_hex, read_decimal, read_signed, Digits·open}

-- ---- the equations of digits

few : (b f n : ℕ) → n < b → digits_in b f n ≡ digit n ∷ []
unfolding digits_in
few b zero n h = refl
few b (suc f) n h = rw (lt-ltb n b h, digits_in)

many : (b f n : ℕ) → b ≤ n → digits_in b (suc f) n ≡ digits_in b f (n / b) ++ (digit (n % b) ∷ [])
unfolding digits_in
many b f n h = rw (le-ltb n b h, digits_in)

-- a bound that suffices does not matter
bound : (b f g n : ℕ) → 1 < b → n ≤ f → n ≤ g → digits_in b f n ≡ digits_in b g n
bound b zero g n h p q = rw (few b zero n (omega arith), few b g n (omega arith))
bound b (suc f) zero n h p q = rw (few b zero n (omega arith), few b (suc f) n (omega arith))
bound b (suc f) (suc g) n h p q = elim (dec_lt n b) [
  | yes k ↦ rw (few b (suc f) n k, few b (suc g) n k)
  | no k ↦ let l : n / b < n = div-lt_self {n = n} {k = b} (omega arith) h in
      rw (many b f n (omega arith), many b g n (omega arith), bound b f g (n / b) h (omega arith) (omega arith))
]

pub digits_one : (b n : ℕ) → n < b → digits b n ≡ digit n ∷ []
unfolding digits
digits_one b n h = few b n n h

pub digits_more : (b n : ℕ) → 1 < b → b ≤ n → digits b n ≡ digits b (n / b) ++ (digit (n % b) ∷ [])
unfolding digits
digits_more b zero h k = absurd (omega arith)
digits_more b (suc n) h k = let l : suc n / b < suc n = div-lt_self {n = suc n} {k = b} (omega arith) h in
    rw (many b n (suc n) k, bound b n (suc n / b) (suc n / b) h (omega arith) (le_refl (suc n / b)))

-- what holds of one digit, and of more with one more behind them, holds of a number's digits
pub digits_ind {ℓ} : (b : ℕ) (P : ℕ → List ℕ → Type ℓ) → 1 < b
    → ((n : ℕ) → n < b → P n (digit n ∷ []))
    → ((n : ℕ) (ds : List ℕ) → b ≤ n → P (n / b) ds → P n (ds ++ (digit (n % b) ∷ [])))
    → (n : ℕ) → P n (digits b n)
unfolding digits
digits_ind b P h one more n = go n n (le_refl n)
  where
    go : (f m : ℕ) → m ≤ f → P m (digits_in b f m)
    go zero m l = rw (few b zero m (omega arith)) (one m (omega arith))
    go (suc f) m l = elim (dec_lt m b) [
      | yes k ↦ rw (few b (suc f) m k) (one m k)
      | no k ↦ rw (many b f m (omega arith))
          (more m (digits_in b f (m / b)) (omega arith) (go f (m / b) (omega (arith, div-lt_self {n = m} {k = b} (omega arith) h))))
    ]

-- ---- read back

undigit_digit : (d : ℕ) → d < 16 → undigit (digit d) ≡ d
unfolding undigit digit
undigit_digit d h = elim (dec_lt d 10) [
  | yes k ↦ rw (lt-ltb d 10 k, lt-ltb (48 + d) 97 (omega arith)) (omega arith)
  | no k ↦ rw (le-ltb d 10 (omega arith), le-ltb (87 + d) 97 (omega arith)) (omega arith)
]

value_snoc : (b a : ℕ) (xs : List ℕ) (d : ℕ) → value b a (xs ++ (d ∷ [])) ≡ value b a xs * b + undigit d
unfolding value
value_snoc b a [] d = refl
value_snoc b a (x ∷ xs) d = value_snoc b (a * b + undigit x) xs d

pub value_digits : (b n : ℕ) → 1 < b → b ≤ 16 → value b 0 (digits b n) ≡ n
unfolding value
value_digits b n h k = digits_ind b (λ m ds. value b 0 ds ≡ m) h
    (λ m l. rw (undigit_digit m (omega arith)) (omega arith))
    (λ m ds l e. rw (value_snoc, e, undigit_digit (m % b) (omega (arith, mod-lt m {m = b} (omega arith)))) (div-add-mod' m b)) n

pub read_hex_lem : (n : ℕ) → read_hex (hex n) ≡ n
unfolding read_hex hex
read_hex_lem n = value_digits 16 n (omega arith) (omega arith)

pub read_decimal_lem : (n : ℕ) → read_decimal (decimal n) ≡ n
unfolding read_decimal decimal
read_decimal_lem n = value_digits 10 n (omega arith) (omega arith)

-- ---- injective

pub hex_injective : (m n : ℕ) → hex m ≡ hex n → m ≡ n
hex_injective m n e = sym (read_hex_lem m) ∙ ap read_hex e ∙ read_hex_lem n

pub decimal_injective : (m n : ℕ) → decimal m ≡ decimal n → m ≡ n
decimal_injective m n e = sym (read_decimal_lem m) ∙ ap read_decimal e ∙ read_decimal_lem n

-- ---- digits only

-- a test that each digit below the base passes holds of every byte of a number
pub digits_all : (p : ℕ → Bool) (b n : ℕ) → T (tests b (λ d. p (digit d))) → 1 < b → T (all p (digits b n))
digits_all p b n t h = digits_ind b (λ m ds. T (all p ds)) h
    (λ m l. both (p (digit m)) true (at b (λ d. p (digit d)) t m l) tt)
    (λ m ds l r. all_append p ds _ r (both (p (digit (m % b))) true (at b (λ d. p (digit d)) t (m % b) (mod-lt m {m = b} (omega arith))) tt)) n

-- '0' to '9'; and 'a' to 'f'
abbrev pub is_decimal : ℕ → Bool
is_decimal c = leb 48 c && leb c 57

-- lower-case
abbrev pub is_hex : ℕ → Bool
is_hex c = is_decimal c || (leb 97 c && leb c 102)

pub hex_all : (p : ℕ → Bool) (n : ℕ) → T (tests 16 (λ d. p (digit d))) → T (all p (hex n))
unfolding hex
hex_all p n t = digits_all p 16 n t (omega arith)

pub decimal_all : (p : ℕ → Bool) (n : ℕ) → T (tests 10 (λ d. p (digit d))) → T (all p (decimal n))
unfolding decimal
decimal_all p n t = digits_all p 10 n t (omega arith)

pub hex_digits : (n : ℕ) → T (all is_hex (hex n))
unfolding digit
hex_digits n = hex_all is_hex n tt

pub decimal_digits : (n : ℕ) → T (all is_decimal (decimal n))
unfolding digit
decimal_digits n = decimal_all is_decimal n tt

-- ---- at least one, and few

pub digits_some : (b n : ℕ) → 1 < b → 0 < length (digits b n)
digits_some b n h = digits_ind b (λ m ds. 0 < length ds) h (λ m l. omega arith) (λ m ds l r. rw length-append (omega arith)) n

pub hex_some : (n : ℕ) → 0 < length (hex n)
unfolding hex
hex_some n = digits_some 16 n (omega arith)

pub decimal_some : (n : ℕ) → 0 < length (decimal n)
unfolding decimal
decimal_some n = digits_some 10 n (omega arith)

pub digits_length : (b k n : ℕ) → 1 < b → n < b ^ suc k → length (digits b n) ≤ suc k
digits_length b k n two h = digits_ind b (λ m ds. (j : ℕ) → m < b ^ suc j → length ds ≤ suc j) two (λ m l j q. omega arith) more n k h
  where
    more : (m : ℕ) (ds : List ℕ) → b ≤ m → ((j : ℕ) → m / b < b ^ suc j → length ds ≤ suc j) → (j : ℕ) → m < b ^ suc j → length (ds ++ (digit (m % b) ∷ [])) ≤ suc j
    more m ds l r zero q = absurd (omega (arith, pow-suc b 0 ∙ ap (λ (x : ℕ). x * b) (pow-zero b) ∙ one-mul b))
    more m ds l r (suc j) q = rw length-append (omega (arith, r j ((div-lt_iff_lt-mul (omega arith)).1 (rw (← pow-suc b (suc j)) q))))

pub hex_length : (n : ℕ) → n < 2 ^ 64 → length (hex n) ≤ 16
unfolding hex
hex_length n h = digits_length 16 15 n (omega arith) h

pub decimal_length : (n : ℕ) → n < 2 ^ 64 → length (decimal n) ≤ 20
unfolding decimal
decimal_length n h = digits_length 10 19 n (omega arith) (omega arith)

-- how many: one more than the power of the base that the number reaches; 0 is counted as 1
pub digits_count : (b k n : ℕ) → 1 < b → b ^ k ≤ max n 1 → n < b * b ^ k → length (digits b n) ≡ suc k
digits_count b k n two lo hi = digits_ind b (λ m ds. (j : ℕ) → b ^ j ≤ max m 1 → m < b * b ^ j → length ds ≡ suc j) two one more n k lo hi
  where
    reach : (j : ℕ) → 0 < b ^ j
    reach j = one-le-pow j b (omega arith)

    one : (m : ℕ) → m < b → (j : ℕ) → b ^ j ≤ max m 1 → m < b * b ^ j → 1 ≡ suc j
    one m l zero p q = refl
    one m l (suc j) p q = absurd (omega (arith, pow-suc b j, mul_comm (b ^ j) b, le-mul_of_pos_right b (reach j)))

    more : (m : ℕ) (ds : List ℕ) → b ≤ m → ((j : ℕ) → b ^ j ≤ max (m / b) 1 → m / b < b * b ^ j → length ds ≡ suc j) → (j : ℕ)
        → b ^ j ≤ max m 1 → m < b * b ^ j → length (ds ++ (digit (m % b) ∷ [])) ≡ suc j
    more m ds l r zero p q = let h : m < b = rw (pow-zero b, mul-one b) at q in absurd (omega arith)
    more m ds l r (suc j) p q =
        let lo : b ^ j ≤ m / b = (le-div_iff_mul-le (omega arith)).1 (omega (arith, pow-suc b j)) in
        let hi : m / b < b * b ^ j = (div-lt_iff_lt-mul (omega arith)).1 (rw (mul_assoc b (b ^ j) b, ← pow-suc b j) q) in
        rw length-append (omega (arith, r j (omega arith) hi))

-- of hexadecimal, by the highest bit
pub hex_count : (j n : ℕ) → 2 ^ j ≤ max n 1 → n < 2 * 2 ^ j → length (hex n) ≡ suc (j / 4)
unfolding hex
hex_count j n lo hi = digits_count 16 (j / 4) n (omega arith)
    (le_trans (rw (sixteen (j / 4)) (pow_mono {i = 4 * (j / 4)} {j = j} (omega arith))) lo)
    (omega (arith, pow-suc 2 j, pow-suc 16 (j / 4), sixteen (suc (j / 4)), pow_mono {i = suc j} {j = 4 * suc (j / 4)} (omega arith)))
  where
    sixteen : (k : ℕ) → 16 ^ k ≡ 2 ^ (4 * k)
    sixteen k = let e : 4 * k ≡ k + k + (k + k) = omega arith in rw (e, pow-add 2 (k + k) (k + k), pow-add 2 k k, ← mul-pow 2 2 k, ← mul-pow 4 4 k)

-- ---- with a sign

-- bytes without '-' are read as a number without one
read_plain : (cs : List ℕ) → T (all (λ c. not (eqb c 45)) cs) → read_signed cs ≡ pos (read_decimal cs)
unfolding read_signed read_decimal value
read_plain [] h = refl
read_plain (c ∷ cs) h = rw (is_false (eqb c 45) (and_l (not (eqb c 45)) _ h))

pub read_signed_lem : (z : ℤ) → read_signed (signed z) ≡ z
unfolding read_signed signed digit
read_signed_lem (pos n) = read_plain (decimal n) (decimal_all (λ c. not (eqb c 45)) n tt) ∙ ap pos (read_decimal_lem n)
read_signed_lem (negsuc n) = rw (read_decimal_lem (suc n))

pub signed_injective : (x y : ℤ) → signed x ≡ signed y → x ≡ y
signed_injective x y e = sym (read_signed_lem x) ∙ ap read_signed e ∙ read_signed_lem y

-- '-' or a digit
abbrev pub is_signed : ℕ → Bool
is_signed c = eqb c 45 || is_decimal c

-- a test that '-' and each digit pass holds of every byte of a signed number
pub signed_all : (p : ℕ → Bool) (z : ℤ) → T (p 45) → T (tests 10 (λ d. p (digit d))) → T (all p (signed z))
unfolding signed
signed_all p (pos n) m t = decimal_all p n t
signed_all p (negsuc n) m t = both (p 45) _ m (decimal_all p (suc n) t)

pub signed_digits : (z : ℤ) → T (all is_signed (signed z))
unfolding digit
signed_digits z = signed_all is_signed z tt tt

pub signed_some : (z : ℤ) → 0 < length (signed z)
unfolding signed
signed_some (pos n) = decimal_some n
signed_some (negsuc n) = omega arith

pub signed_length : (z : ℤ) → nat_abs z ≤ 2 ^ 63 → length (signed z) ≤ 20
unfolding signed decimal
signed_length (pos n) h = digits_length 10 19 n (omega arith) (omega arith)
signed_length (negsuc n) h = omega (arith, digits_length 10 18 (suc n) (omega arith) (omega arith))

-- by the sign and the magnitude
pub signed_neg : (z : ℤ) → lt_z z (pos 0) ≡ true → signed z ≡ 45 ∷ decimal (nat_abs z)
unfolding signed
signed_neg (pos n) e = absurd (omega (arith, ltb-true n 0 e))
signed_neg (negsuc n) e = refl

pub signed_pos : (z : ℤ) → lt_z z (pos 0) ≡ false → signed z ≡ decimal (nat_abs z)
unfolding signed
signed_pos (pos n) e = refl
signed_pos (negsuc n) e = absurd (subst T e tt)

-- ---- what the recursion on the digits writes

pub put_digit : {d d₁ : List ℕ} {at r₁ x : ℕ} (b n : ℕ) → Put d at (x ∷ []) d₁ r₁ → x ≡ digit n → n < b → Put d at (digits b n) d₁ r₁
put_digit b n p e h = rw (digits_one b n h, ← e) p

pub put_digits : {d d₁ d₂ : List ℕ} {at r₁ r₂ x : ℕ} (b n : ℕ)
    → Put d at (digits b (n / b)) d₁ r₁ → Put d₁ r₁ (x ∷ []) d₂ r₂ → x ≡ digit (n % b) → b ≤ n → 1 < b → Put d at (digits b n) d₂ r₂
put_digits b n p q e h two = rw (digits_more b n two h, ← e) (p ⨾ q)

-- ---- the definitions compute, at both ends of the ranges

extremes :
    (hex 0 ≡ ascii "0") × (decimal 0 ≡ ascii "0") × (hex (2 ^ 64 - 1) ≡ ascii "ffffffffffffffff") × (decimal (2 ^ 64 - 1) ≡ ascii "18446744073709551615")
    × (signed (negsuc (2 ^ 63 - 1)) ≡ ascii "-9223372036854775808") × (signed (pos (2 ^ 63 - 1)) ≡ ascii "9223372036854775807")
unfolding Digits·open
extremes = (refl, refl, refl, refl, refl, refl)
