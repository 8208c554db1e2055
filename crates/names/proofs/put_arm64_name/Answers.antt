-- `put_arm64_name`: the point, and behind it what is numbered, whose letter is the register's.
use Rattle.std.proofs.Common.{ap, ◌++◌}
use Rattle.digits.specs.Digits.{decimal}
use Rattle.text.specs.Text.Laws.{put_as, ◌⨾◌}
use Rattle.names.specs.Names.{arm64_name}
use Rattle.names.proofs.put_arm64_name.Goals as goal

pub returns : goal.returns
unfolding arm64_name
returns c = c.put_byte-p.ensures ⨾ put_as c.put_numbered.ensures (ap (λ l. l ++ decimal c.args.register) c.letter_byte.ensures)
