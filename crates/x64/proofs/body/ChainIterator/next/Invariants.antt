-- `Chain::next`: an info with no operations changes nothing of what is left to run.
use Rattle.std.proofs.Common.{◌≡◌}
use Rattle.x64.specs.Index.{left_to_run}
use Rattle.x64.proofs.body.ChainIterator.next.Given as goal

abbrev pub invariant-loop-self : goal.invariant-loop-self
invariant-loop-self l =
    left_to_run l.self.body.words.now l.self.left l.self.info.base l.self.info.ops.now
    ≡ left_to_run l.fn.self.body.words.now l.fn.self.left l.fn.self.info.base l.fn.self.info.ops.now

abbrev pub decreases-loop-self : goal.decreases-loop-self
decreases-loop-self l = l.self.left
