-- `put_later_line`: three parts, joined.
use Rattle.text.specs.Text.Laws.{◌⨾◌}
use Rattle.lines.specs.Lines.{later_text}
use Rattle.arm64.specs.Arm64.{later_line}
use Rattle.arm64.proofs.write.put_later_line.Goals as goal

pub returns : goal.returns
unfolding later_text later_line
returns c = c.put_later-p.ensures ⨾ c.put_rules-p.ensures ⨾ c.put_byte.ensures
