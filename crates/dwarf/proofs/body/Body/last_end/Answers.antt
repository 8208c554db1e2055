-- `last_end`: the end of the last row that the iterator gives.
use Rattle.std.proofs.Common.{refl, ap, sym, ◌∙◌, None}
use Rattle.std.proofs.lemmas.Iterator.{items_from_drains}
use Rattle.std.proofs.lemmas.Iterator.Consumers.{YieldsList-from_first}
use Rattle.dwarf.specs.Dwarf.{last_end}
use Rattle.dwarf.specs.Slices.{row_is, rows_left}
use Rattle.dwarf.proofs.Chains.{end_of, ends_at, last_is}
use Rattle.dwarf.proofs.body.Body.last_end.Goals as goal

pub returns : goal.returns
returns c =
    let b = c.args.self in
    let l = c.last.ensures.ran in
    let d = l.1 in
    let rows = items_from_drains l.0 (d.1.0, d.1.1, λ u. (d.0, d.1.2)) (YieldsList-from_first row_is rows_left (rows_left b.rows) refl) in
    ends_at c.last.result _ c.map_or.ensures ∙ ap end_of l.2 ∙ sym (last_is None l.0) ∙ ap (last_end 0) (rows ∙ b.rows_are)
