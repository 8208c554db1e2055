-- `put_field`: the number and a space.
use Rattle.text.specs.Text.Laws.{◌⨾◌}
use Rattle.lines.proofs.put_field.Goals as goal

pub returns : goal.returns
returns c = c.put_hex-p.ensures ⨾ c.put_byte.ensures
