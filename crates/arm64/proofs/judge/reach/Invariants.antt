-- `reach`: what is left to scan gives what all gives (`ScanLeft`).
use Rattle.arm64.specs.Arm64.{no_pair, in_reach}
use Rattle.arm64.specs.Index.{ops_run}
use Rattle.arm64.proofs.Loops.{ScanLeft}
use Rattle.arm64.proofs.judge.reach.Given as goal

abbrev pub invariant-loop-i : goal.invariant-loop-i
invariant-loop-i l =
    ScanLeft l.body.address (in_reach l.body.address 0 0 no_pair (ops_run l.body.ops.now)) l.e.state l.i-iterator.count l.i-iterator.iter.iter.rest.now
