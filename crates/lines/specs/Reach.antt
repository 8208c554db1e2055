-- Numbers in reach (document 01, refusal 6): totals and printed places inside signed 32 bits.
use Rattle.std.specs.Prelude.{ℕ, suc, ◌-◌, ◌^◌, ◌<◌, ◌≡◌, Bool, true, false, cond, ℤ, pos, negsuc, ltb}
use Rattle.std.proofs.Common.{arith, lt-ltb}
use Rattle.std.proofs.Math.IntN.{sub_ℕ}

-- 01, refusal 6: inside signed 32 bits
unfoldable pub inside : ℤ → Bool
inside (pos n) = ltb n (2 ^ 31)
inside (negsuc n) = ltb n (2 ^ 31)

-- a difference of two numbers in reach
pub difference_inside : (a b : ℕ) → a < 2 ^ 31 → b < 2 ^ 31 → inside (sub_ℕ a b) ≡ true
unfolding inside
difference_inside a b h k = go (ltb a b)
  where
    go : (t : Bool) → inside (cond t (negsuc (b - suc a)) (pos (a - b))) ≡ true
    go true = lt-ltb (b - suc a) (2 ^ 31) (omega arith)
    go false = lt-ltb (a - b) (2 ^ 31) (omega arith)
