-- `put_line`: the five puts in a row are the line.
use Rattle.text.specs.Text.Laws.{put_as}
use Rattle.dwarf.specs.Slices.{row_is}
use Rattle.dwarf.proofs.Rows.{put_line_parts}
use Rattle.dwarf.proofs.Fde.put_line.Goals as goal

pub returns-clause-puts : goal.returns-clause-puts
returns-clause-puts c =
    put_line_parts c.args.self (row_is c.args.row).start _ (rw c.start.ensures at c.put_start-p.ensures) c.put_formatted-p.ensures c.put_rules-p.ensures.puts
    (put_as c.put_formatted-p-2.ensures c.new_default-default.ensures) c.put_byte.ensures
