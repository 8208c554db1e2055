-- `put_amount`: three puts, one after the other.
use Rattle.std.proofs.Common.{ap}
use mir.Facts.{to_z-of_z}
use Rattle.text.specs.Text.Laws.{◌⨾◌, put_as}
use Rattle.digits.specs.Digits.{signed}
use Rattle.rules.proofs.put_amount.Goals as goal

pub returns : goal.returns
returns c = c.put_byte-p.ensures ⨾ put_as c.put_signed-p.ensures (ap signed (to_z-of_z c.ranges.x)) ⨾ c.put_bytes.ensures
