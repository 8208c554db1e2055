-- `registers_fit`: the loop of `MetLeft`: registers met and those left to meet are those of the body.
use Rattle.dwarf.specs.Slices.{rows_left}
use Rattle.dwarf.proofs.Meeting.{MetLeft}
use Rattle.dwarf.proofs.judge.registers_fit.Given as goal

abbrev pub invariant-loop-row : goal.invariant-loop-row
invariant-loop-row l = MetLeft (rows_left l.rows) l.met (rows_left l.row-iterator)
