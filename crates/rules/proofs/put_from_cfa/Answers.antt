-- `put_from_cfa`: the CFA, then the amount.
use Rattle.std.proofs.Common.{ap}
use lib.IntN.{ℤ}
use mir.Facts.{to_z-of_z}
use Rattle.text.specs.Text.Laws.{◌⨾◌, put_as}
use Rattle.lines.specs.Lines.{amount}
use Rattle.rules.proofs.put_from_cfa.Goals as goal

pub returns : goal.returns
returns c = c.put_bytes-p.ensures ⨾ put_as c.put_amount.ensures (ap (λ (z : ℤ). amount z c.args.operators.now) (to_z-of_z c.ranges.x))
