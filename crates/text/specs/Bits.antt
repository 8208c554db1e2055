-- How many digits of w bits a number has, by the place of its highest bit.
use Rattle.std.specs.Prelude.{◌≡◌, ℕ, zero, suc, ◌+◌, ◌-◌, ◌/◌, ◌^◌, ◌≤◌, ◌<◌}
use Rattle.std.proofs.Common.{sym, ap, ◌∙◌, le_refl, le_trans, lt_of_lt_of_le, lt_of_le_of_lt, div-le_self, le-div_iff_mul-le, div-lt_iff_lt-mul, arith, pow_pos, pow_mono, pow-add}
use Rattle.std.proofs.Math.Nat.{div-eq_of_lt, add-div_right}
use Rattle.std.proofs.Math.Decide.{dec_lt}

-- L counts the digits of a number below N: one below 2^w, and one more than its number without the last. `j` is the place of the highest bit
pub width : (L : ℕ → ℕ) (w N : ℕ) → 0 < w
    → ((n : ℕ) → 0 < n → n < 2 ^ w → L n ≡ 1)
    → ((n : ℕ) → 2 ^ w ≤ n → n < N → L n ≡ suc (L (n / 2 ^ w)))
    → (j n : ℕ) → 2 ^ j ≤ n → n < 2 ^ suc j → n < N → L n ≡ suc (j / w)
width L w N pos one more j n lo hi fits = go j j n (le_refl j) lo hi fits
  where
    Counted : ℕ → Type 0
    Counted i = (m : ℕ) → 2 ^ i ≤ m → m < 2 ^ suc i → m < N → L m ≡ suc (i / w)

    high : (i n : ℕ) → 2 ^ (i + w) ≤ n → n < 2 ^ (suc i + w) → (2 ^ i ≤ n / 2 ^ w) × (n / 2 ^ w < 2 ^ suc i)
    high i n lo hi =
        ((le-div_iff_mul-le (pow_pos w)).1 (rw (← pow-add 2 i w) lo), (div-lt_iff_lt-mul (pow_pos w)).1 (rw (← pow-add 2 (suc i) w) hi))

    step : (i n : ℕ) → 2 ^ (i + w) ≤ n → n < 2 ^ (suc i + w) → n < N → Counted i → L n ≡ suc ((i + w) / w)
    step i n lo hi fits ih =
        let h = high i n lo hi in
        more n (le_trans (pow_mono {i = w} {j = i + w} (omega arith)) lo) fits
        ∙ ap suc (ih (n / 2 ^ w) h.0 h.1 (lt_of_le_of_lt (div-le_self n (2 ^ w)) fits))
        ∙ omega (arith, add-div_right i pos)

    small : (j n : ℕ) → 2 ^ j ≤ n → n < 2 ^ suc j → j < w → L n ≡ suc (j / w)
    small j n lo hi h = one n (lt_of_lt_of_le (pow_pos j) lo) (lt_of_lt_of_le hi (pow_mono {i = suc j} {j = w} h)) ∙ ap suc (sym (div-eq_of_lt h))

    go : (f j n : ℕ) → j ≤ f → 2 ^ j ≤ n → n < 2 ^ suc j → n < N → L n ≡ suc (j / w)
    go zero j n l lo hi fits = small j n lo hi (omega arith)
    go (suc f) j n l lo hi fits = elim (dec_lt j w) [
      | yes h ↦ small j n lo hi h
      | no h ↦
          let e : j ≡ (j - w) + w = omega arith in
          let g : suc j ≡ suc (j - w) + w = omega arith in
          rw e (step (j - w) n (rw (← e) lo) (rw (← g) hi) fits (λ m. go f (j - w) m (omega arith)))
    ]
