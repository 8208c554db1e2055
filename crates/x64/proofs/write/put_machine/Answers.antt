-- `put_machine`: two texts, put one after the other.
use Rattle.std.proofs.Common.{arith}
use Rattle.text.specs.Text.Laws.{◌⨾◌}
use Rattle.tables.specs.Tables.{pe_name, pe_x64}
use Rattle.x64.specs.X64.{machine_text}
use Rattle.x64.proofs.Rules.{sum_is}
use Rattle.x64.proofs.write.put_machine.Goals as goal

pub returns : goal.returns
unfolding machine_text pe_name pe_x64
returns c =
    let S = c.args.total in
    (rw (c.pe_register_name-rsp.ensures, sum_is S 16 (omega arith) (omega arith)) at c.put_saved-p.ensures)
    ⨾ (rw (c.ra_name.ensures, sum_is S 40 (omega arith) (omega arith)) at c.put_saved.ensures)
