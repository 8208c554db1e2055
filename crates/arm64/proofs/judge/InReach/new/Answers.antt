-- `new`: the numbers of the start are small.
use Rattle.arm64.specs.Encoder.{small_start}
use Rattle.arm64.proofs.judge.InReach.new.Goals as goal

pub invariant_of-result : goal.invariant_of-result
invariant_of-result c =
    rw c.new.ensures (record { total = small_start.total; last = small_start.last; saved = small_start.saved })
