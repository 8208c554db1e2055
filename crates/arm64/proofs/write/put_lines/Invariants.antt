-- `put_lines`: what is left to put is the lines of the operations left (`LinesLeft`).
use Rattle.arm64.specs.Arm64.{no_pair, run}
use Rattle.arm64.specs.Index.{ops_run}
use Rattle.arm64.proofs.Loops.{LinesLeft}
use Rattle.arm64.proofs.write.put_lines.Given as goal

abbrev pub invariant-loop-i : goal.invariant-loop-i
invariant-loop-i l =
    let all = run l.body.address l.body.size 0 0 no_pair (ops_run l.body.ops.now) in
    LinesLeft l.body.address l.body.size l.fn.out l.at all l.out l.p l.e.state l.i-iterator.count l.i-iterator.iter.iter.rest.now
