-- `put_name`: the bytes that are still to come are left to put.
use Rattle.std.proofs.Common.{take}
use Rattle.text.specs.Text.{Left}
use Rattle.names.specs.Names.{name_text}
use Rattle.names.proofs.put_name.Given as goal

abbrev pub invariant-loop-b : goal.invariant-loop-b
invariant-loop-b l = Left l.fn.out l.at (name_text l.fn.name) l.out l.p (take l.b-iterator.n l.b-iterator.iter.rest.now)
