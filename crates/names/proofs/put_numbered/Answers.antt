-- `put_numbered`: two puts, one after the other.
use Rattle.text.specs.Text.Laws.{◌⨾◌}
use Rattle.names.proofs.put_numbered.Goals as goal

pub returns : goal.returns
returns c = c.put_byte-p.ensures ⨾ c.put_decimal.ensures
