-- `ranges_fit`: one range and its start are tested.
use Rattle.std.proofs.lemmas.List.{nil_from_length}
use Rattle.pdb.specs.Pdb.{differ, ranges_fit}
use Rattle.pdb.proofs.judge.ranges_fit.Goals as goal

pub returns : goal.returns
unfolding ranges_fit differ
returns c = rw (nil_from_length c.loop-first.ranges.now c.in_default.ensures.cases) at c.loop-first.invariant
