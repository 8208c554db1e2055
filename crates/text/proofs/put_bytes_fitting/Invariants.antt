-- `put_bytes_fitting`: the loop has put the bytes in front of the index.
use Rattle.std.proofs.Common.{take}
use Rattle.text.specs.Text.{Put}
use Rattle.text.proofs.put_bytes_fitting.Given as goal

abbrev pub invariant-loop-b : goal.invariant-loop-b
invariant-loop-b l = Put l.fn.out l.at (take l.b-index l.src) l.out l.p
