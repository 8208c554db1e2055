-- Places as signed numbers, and the parts of the line.
use Rattle.std.proofs.Common.{◌≡◌, ℕ, ◌+◌, ◌^◌, ◌<◌, Bool, true, false, ltb, ltb-true, ltb-false, List, ◌++◌, ℤ, pos, ◌+ℤ◌, ◌-ℤ◌, refl, ap, append_assoc, arith, to_z, of_z, w64}
use Rattle.std.proofs.Math.IntN.{sub_ℕ}
use Rattle.std.proofs.Math.Facts.{to_z-of_z}
use Rattle.std.proofs.lemmas.Int.{ints}
use mir.Val.{SFits}
use Rattle.text.specs.Text.{ascii, Put}
use Rattle.text.specs.Text.Laws.{put_as, ◌⨾◌}
use Rattle.lines.specs.Lines.{Bytes, init_text}
use Rattle.digits.specs.Digits.{hex}

-- an i64 in a rule
pub same_i64 : (n : ℤ) → SFits w64 n → to_z w64 (of_z w64 n) ≡ n
same_i64 n h = to_z-of_z h

-- the sum and the difference of two u32 as an i64
pub sum_is : (a b : ℕ) → a < 2 ^ 32 → b < 2 ^ 32 → to_z w64 (of_z w64 (to_z w64 a +ℤ pos b)) ≡ pos (a + b)
sum_is a b h k = omega (arith, ints)

pub difference_is : (a b : ℕ) → a < 2 ^ 32 → b < 2 ^ 32 → to_z w64 (of_z w64 (to_z w64 a -ℤ to_z w64 b)) ≡ sub_ℕ a b
difference_is a b h k = go (ltb a b) refl
  where
    go : (t : Bool) → ltb a b ≡ t → to_z w64 (of_z w64 (to_z w64 a -ℤ to_z w64 b)) ≡ sub_ℕ a b
    go true e = let l : a < b = ltb-true a b e in rw e (omega (arith, ints))
    go false e = let l = ltb-false a b e in rw e (omega (arith, ints))

-- an INIT line of three parts
pub put_line : {d d₁ d₂ d₃ d₄ d₅ : List ℕ} {at r₁ r₂ r₃ r₄ r₅ : ℕ} (b z : ℕ) (x y w : Bytes)
    → Put d at (init_text b z) d₁ r₁ → Put d₁ r₁ x d₂ r₂ → Put d₂ r₂ y d₃ r₃ → Put d₃ r₃ w d₄ r₄ → Put d₄ r₄ (ascii "\n") d₅ r₅
    → Put d at (ascii "STACK CFI INIT " ++ hex b ++ ascii " " ++ hex z ++ (x ++ y ++ w) ++ ascii "\n") d₅ r₅
unfolding init_text
put_line b z x y w p₁ p₂ p₃ p₄ p₅ =
    put_as (p₁ ⨾ p₂ ⨾ p₃ ⨾ p₄ ⨾ p₅) (ap (λ (t : Bytes). t ++ ascii "\n") (join (ascii "STACK CFI INIT " ++ hex b ++ ascii " " ++ hex z) x y w))
  where
    join : (i x y w : Bytes) → i ++ x ++ y ++ w ≡ i ++ (x ++ y ++ w)
    join i x y w = simp append_assoc
