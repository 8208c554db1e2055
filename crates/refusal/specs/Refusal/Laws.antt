-- A number tells whether there is a refusal.
use Rattle.std.specs.Prelude.{◌≡◌}
use Rattle.std.proofs.Common.{arith}
use Rattle.refusal.specs.declared.Refusal.{Refusal}
use Rattle.refusal.specs.declared.Refusal.TheVariants.{Work, Limit, Contents, Layout, Chain, Reach, Frame, Long, Room, Version, Truncated, Code}
use Rattle.refusal.specs.Refusal.{number}

-- none has the number 0
pub numbered : (r : Refusal) → number r ≡ 0 → ⊥
numbered Work e = absurd (omega arith)
numbered Limit e = absurd (omega arith)
numbered Contents e = absurd (omega arith)
numbered Layout e = absurd (omega arith)
numbered Chain e = absurd (omega arith)
numbered Reach e = absurd (omega arith)
numbered Frame e = absurd (omega arith)
numbered Long e = absurd (omega arith)
numbered Room e = absurd (omega arith)
numbered Version e = absurd (omega arith)
numbered Truncated e = absurd (omega arith)
numbered Code e = absurd (omega arith)
