-- `Rows::read`: the rows left decide, as long as those before fit.
use Rattle.std.proofs.Common.{◌≡◌, ◌-◌}
use Rattle.dwarf.specs.Dwarf.{rows_fit}
use Rattle.dwarf.proofs.body.Rows.read.Given as goal

abbrev pub invariant-loop : goal.invariant-loop
invariant-loop l = rows_fit l.rest (l.count - l.counter) 0 ≡ rows_fit l.words l.count 0
