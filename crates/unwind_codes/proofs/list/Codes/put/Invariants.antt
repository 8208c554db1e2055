-- `put`: the operations of the codes left are what is left to put.
use Rattle.std.proofs.Common.{◌-◌}
use Rattle.unwind_codes.specs.UnwindCodes.{list, op_words}
use Rattle.unwind_codes.proofs.Loops.{Putting}
use Rattle.unwind_codes.proofs.list.Codes.put.Given as goal

abbrev pub invariant-loop : goal.invariant-loop
invariant-loop l = Putting l.fn.out l.at (op_words (list l.self.bytes.now)) l.out l.p l.rest (l.self.count - l.counter)
