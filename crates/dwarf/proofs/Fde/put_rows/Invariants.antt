-- `put_rows`: the loop of `RowsLeft`: the lines of the rows left are what is left to write.
use Rattle.dwarf.specs.Slices.{rows_left}
use Rattle.dwarf.proofs.Loops.{RowsLeft}
use Rattle.dwarf.proofs.Fde.put_rows.Given as goal

abbrev pub invariant-loop-row : goal.invariant-loop-row
invariant-loop-row l = RowsLeft l.body.words.now l.self l.fn.out l.at l.out l.p l.state (rows_left l.row-iterator)
