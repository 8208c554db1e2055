-- `put_chain`: what is left to run is in reach, and its text is what is left to put.
use Rattle.std.proofs.Common.{T}
use Rattle.text.specs.Text.{Left}
use Rattle.x64.specs.X64.{chain, run, op_text}
use Rattle.x64.specs.Index.{left_to_run, reaches}
use Rattle.x64.proofs.write.put_chain.Given as goal

abbrev pub invariant-loop-op : goal.invariant-loop-op
invariant-loop-op l =
    let left = l.op-iterator in
    let os = left_to_run left.body.words.now left.left left.info.base left.info.ops.now in
    record { reach : T (reaches l.total os); text : Left l.fn.out l.at (run op_text 8 (chain l.body.words.now)) l.out l.p (run op_text l.total os) }
