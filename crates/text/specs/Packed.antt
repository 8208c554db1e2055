-- Names packed in a number, the first byte lowest, at most eight bytes. Tables have the bytes themselves now, so that nothing asks for these; they stand
-- for what was said of them.
use Rattle.std.specs.Prelude.{◌≡◌, refl, List, [], ◌∷◌, ℕ, zero, suc, ◌+◌, ◌-◌, ◌/◌, ◌%◌, ◌^◌, ◌≤◌, ◌<◌, length}
use Rattle.std.proofs.Common.{sym, ap, ◌∙◌, div-lt_iff_lt-mul, pow-suc, arith}
use Rattle.std.specs.Int.Count.{count_leading_zeros, leading_of_zero}
use Rattle.std.proofs.lemmas.Nat.{leading_top}
use Rattle.text.specs.Bits.{width}

-- a packed name, the first byte lowest: at most n bytes, up to where nothing is left
unfoldable pub unpack_in : ℕ → ℕ → List ℕ
unpack_in zero m = []
unpack_in (suc n) zero = []
unpack_in (suc n) (suc m) = suc m % 256 ∷ unpack_in n (suc m / 256)

-- the name in a u64
unfoldable pub unpack : ℕ → List ℕ
unpack m = unpack_in 8 m

unpack_step : (n m : ℕ) → 0 < m → unpack_in (suc n) m ≡ m % 256 ∷ unpack_in n (m / 256)
unfolding unpack_in
unpack_step n zero h = absurd (omega arith)
unpack_step n (suc m) h = refl

-- where nothing is left, room for another byte does not matter
unpack_room : (n m : ℕ) → m < 256 ^ n → unpack_in (suc n) m ≡ unpack_in n m
unfolding unpack_in
unpack_room zero zero h = refl
unpack_room zero (suc m) h = absurd (omega arith)
unpack_room (suc n) zero h = refl
unpack_room (suc n) (suc m) h = ap (λ (bs : List ℕ). suc m % 256 ∷ bs) (unpack_room n (suc m / 256) ((div-lt_iff_lt-mul (omega arith)).1 (rw (← pow-suc 256 n) h)))

pub unpack_more : (m : ℕ) → 0 < m → m < 2 ^ 64 → unpack m ≡ m % 256 ∷ unpack (m / 256)
unfolding unpack
unpack_more m h k = unpack_step 7 m h ∙ ap (λ (bs : List ℕ). m % 256 ∷ bs) (sym (unpack_room 7 (m / 256) (omega arith)))

pub unpack_none : unpack 0 ≡ []
unfolding unpack unpack_in
unpack_none = refl

-- a name's length, by the highest bit
pub unpack_length : (m : ℕ) → m < 2 ^ 64 → length (unpack m) ≡ 8 - count_leading_zeros 64 m / 8
unpack_length zero h = rw (unpack_none, leading_of_zero 64)
unpack_length (suc m) h =
    let t = leading_top 64 (suc m) (omega arith) h in
    width (λ n. length (unpack n)) 8 (2 ^ 64) (omega arith) one more t.0 (suc m) t.2 t.3 h ∙ omega (arith, t.1)
  where
    one : (n : ℕ) → 0 < n → n < 2 ^ 8 → length (unpack n) ≡ 1
    one n p l = let e : n / 256 ≡ 0 = omega arith in ap length (unpack_more n p (omega arith)) ∙ rw (e, unpack_none)

    more : (n : ℕ) → 2 ^ 8 ≤ n → n < 2 ^ 64 → length (unpack n) ≡ suc (length (unpack (n / 2 ^ 8)))
    more n l k = ap length (unpack_more n (omega arith) k)
