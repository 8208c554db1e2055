-- `put_later`: the words by the flag, and the address.
use Rattle.text.specs.Text.Laws.{◌⨾◌}
use Rattle.lines.specs.Lines.{later_text}
use Rattle.lines.proofs.put_later.Goals as goal
use Rattle.lines.proofs.put_later.Goals.{then-six, else-six}

pub returns : goal.returns
unfolding later_text
returns c = elim c.if-six.branch [
  | then-six w ↦ rw w.if-six.true ((rw (w.start-is) at c.put_bytes-p.ensures) ⨾ c.put_hex.ensures)
  | else-six w ↦ rw w.if-six.false ((rw (w.start-is) at c.put_bytes-p.ensures) ⨾ c.put_hex.ensures)
]
