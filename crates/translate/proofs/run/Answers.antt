-- `run`: the work area is as long as it was lent.
use Rattle.std.proofs.Common.{◌≡◌, length, arith}
use Rattle.translate.specs.Outcome.{AREA}
use Rattle.translate.proofs.run.Goals as goal

pub returns-clause-work_after : goal.returns-clause-work_after
returns-clause-work_after c = let long : length c.entries-r.new.work ≡ AREA = omega (arith, c.entries-r.array_long) in rw long at c.clear.ensures
