-- `read`: what is left decides, as long as the codes before it are whole.
use Rattle.std.proofs.Common.{length}
use Rattle.unwind_codes.proofs.Loops.{Checking}
use Rattle.unwind_codes.proofs.list.Codes.read.Given as goal

abbrev pub invariant-loop-rest : goal.invariant-loop-rest
invariant-loop-rest l = Checking l.bytes l.rest l.count

abbrev pub decreases-loop-rest : goal.decreases-loop-rest
decreases-loop-rest l = length l.rest
