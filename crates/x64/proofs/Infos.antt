-- An answer that is there.
use Rattle.std.proofs.Common.{◌≡◌, refl, Option, None, Some, IsSome}

pub is_there : {A : Type 0} (o : Option A) → (o ≡ None → ⊥) → IsSome o
is_there None h = absurd (h refl)
is_there (Some x) h = refl
