-- `ranges_fit`: the ranges that are left fit just where all do.
use Rattle.std.proofs.Common.{◌≡◌, length}
use Rattle.pdb.specs.Pdb.{ranges_fit}
use Rattle.pdb.specs.Index.{ranges_of}
use Rattle.pdb.proofs.judge.ranges_fit.Given as goal

abbrev pub invariant-loop-first : goal.invariant-loop-first
invariant-loop-first l = ranges_fit (ranges_of l.ranges) ≡ ranges_fit (ranges_of l.fn.ranges)

abbrev pub decreases-loop-first : goal.decreases-loop-first
decreases-loop-first l = length l.ranges
