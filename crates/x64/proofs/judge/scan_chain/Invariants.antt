-- `scan_chain`: scanning what is left gives what scanning the chain gives.
use Rattle.std.proofs.Common.{◌≡◌}
use Rattle.x64.specs.X64.{chain}
use Rattle.x64.specs.Index.{left_to_run}
use Rattle.x64.specs.Scan.{scan_start, scanned}
use Rattle.x64.proofs.judge.scan_chain.Given as goal

abbrev pub invariant-loop-op : goal.invariant-loop-op
invariant-loop-op l =
    let left = l.op-iterator in
    scanned l.scan (left_to_run left.body.words.now left.left left.info.base left.info.ops.now) ≡ scanned scan_start (chain l.body.words.now)
