-- A register that the last arm of a `match` over a list of names is left with has no name in it. The tables are arrays now, and no proof asks for this;
-- it stands for what was said of them.
use Rattle.std.proofs.Common.{◌≡◌, refl, subst, ℕ, zero, suc, ◌≤◌, Bool, false, not, List, [], ◌∷◌, length, get_or, arith}
use Rattle.std.proofs.Math.Dec.{T, eqb}
use Rattle.std.proofs.Math.Decide.{dec_lt}
use Rattle.std.proofs.lemmas.Bool.{ne_eqb}
use Rattle.text.specs.Tests.{Others, others}

get_d_out : (ns : List (List ℕ)) (i : ℕ) → length ns ≤ i → get_or ns i [] ≡ []
get_d_out [] i h = refl
get_d_out (n ∷ ns) zero h = absurd (omega arith)
get_d_out (n ∷ ns) (suc i) h = get_d_out ns i (omega arith)

-- whether the i-th entry is a name
abbrev pub named : List (List ℕ) → ℕ → Bool
named ns i = not (eqb (length (get_or ns i [])) 0)

empty : (n : List ℕ) → not (eqb (length n) 0) ≡ false → n ≡ []
empty [] h = refl
empty (b ∷ n) h = absurd (subst T h (rw (ne_eqb (suc (length n)) 0 (λ e. omega arith)) tt))

-- `Others`: what the last arm is told, where each name has an arm
pub none_left : (ns : List (List ℕ)) (n : ℕ) → Others (named ns) (length ns) n → get_or ns n [] ≡ []
none_left ns n h = elim (dec_lt n (length ns)) [
  | yes l ↦ empty (get_or ns n []) (others (named ns) (length ns) n h l)
  | no l ↦ get_d_out ns n (omega arith)
]
