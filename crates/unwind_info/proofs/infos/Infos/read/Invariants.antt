-- `read`: the parts that are left decide, as long as those before them are whole.
use Rattle.std.proofs.Common.{length}
use Rattle.unwind_info.proofs.Loops.{Checking}
use Rattle.unwind_info.proofs.infos.Infos.read.Given as goal

abbrev pub invariant-loop-rest : goal.invariant-loop-rest
invariant-loop-rest l = Checking l.bytes l.rest l.parts l.slots

abbrev pub decreases-loop-rest : goal.decreases-loop-rest
decreases-loop-rest l = length l.rest
