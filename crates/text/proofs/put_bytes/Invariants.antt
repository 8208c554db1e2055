-- `put_bytes`: where all of src fits, the loop has stored its first i bytes.
use Rattle.std.proofs.Common.{◌+◌, ◌≤◌, take}
use Rattle.text.specs.Text.{Put}
use Rattle.text.proofs.put_bytes.Given as goal

abbrev pub invariant-loop-i : goal.invariant-loop-i
invariant-loop-i l = record { inside : l.i ≤ l.n; put : Put l.fn.out l.at (take l.i l.src) l.out (l.at + l.i) }
