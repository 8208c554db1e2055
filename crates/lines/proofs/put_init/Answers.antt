-- `put_init`: four puts, one after the other.
use Rattle.text.specs.Text.Laws.{◌⨾◌}
use Rattle.lines.specs.Lines.{init_text}
use Rattle.lines.proofs.put_init.Goals as goal

pub returns : goal.returns
unfolding init_text
returns c = c.put_bytes-p.ensures ⨾ c.put_hex-p.ensures ⨾ c.put_byte-p.ensures ⨾ c.put_hex.ensures
