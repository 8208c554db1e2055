-- `put_first_line`: four parts, joined.
use Rattle.text.specs.Text.Laws.{◌⨾◌}
use Rattle.lines.specs.Lines.{init_text}
use Rattle.arm64.specs.Arm64.{first_line}
use Rattle.arm64.proofs.write.put_first_line.Goals as goal

pub returns : goal.returns
unfolding init_text first_line
returns c = c.put_init-p.ensures ⨾ c.put_rules-p.ensures ⨾ c.put_defaults-p.ensures ⨾ c.put_byte.ensures
