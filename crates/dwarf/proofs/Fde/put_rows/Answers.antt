-- `put_rows`: a turn puts one row's line.
use Rattle.std.proofs.Common.{arith}
use Rattle.dwarf.proofs.Loops.{lines_all, row_room, row_names_once, lines_turn, lines_done}
use Rattle.dwarf.proofs.Fde.put_rows.Goals as goal

pub loop-row-init : goal.loop-row-init
loop-row-init c =
    let s = c.start-state.ensures in
    rw (c.into_iter-row-iterator.ensures.into_iter_gives, c.args.body.rows_are) (lines_all c.args.body.laid_out s.0 s.1 s.2 (omega arith) (omega arith))

pub put_row-placed-requires : goal.put_row-placed-requires
put_row-placed-requires c = record { room = row_room c.loop-row.invariant c.in-Some.ensures.steps; once = row_names_once c.loop-row.invariant c.in-Some.ensures.steps }

pub loop-row-preserved : goal.loop-row-preserved
loop-row-preserved c = lines_turn c.loop-row.invariant c.in-Some.ensures.steps c.put_row-placed.ensures.writes c.put_row-placed.ensures.goes

pub returns : goal.returns
returns c = lines_done c.loop-row.invariant c.in-None.ensures.steps.0
