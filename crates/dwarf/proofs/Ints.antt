-- 64 bits in two's complement, as the library casts them.
use mathlib.Core.Path.{◌≡◌, ap, ◌∙◌}
use Prim.Native.Nat.{ℕ, ◌^◌}
use native.Mathlib.Omega.{arith}
use mathlib.Core.Bool.{cond}
use lib.Dec.{ltb}
use lib.IntN.{ℤ, pos, negsuc}
use mir.Syntax.{w64}
use mir.Val.{to_z, of_z, SFits}
use mir.Facts.{to_z-of_z}
use Rattle.dwarf.specs.Dwarf.{twos}

pub cast_is : {z : ℤ} (v : ℕ) → SFits w64 z → z ≡ to_z w64 v → to_z w64 (of_z w64 z) ≡ twos v
unfolding twos
cast_is v f e = to_z-of_z f ∙ e ∙ ap (λ (n : ℕ). cond (ltb v (2 ^ 63)) (pos v) (negsuc n)) (omega arith)
