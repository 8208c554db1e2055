-- `put_bytes_fitting`: one more byte is put.
use Rattle.std.proofs.Common.{add-one}
use lib.Seq.{take-suc}
use Rattle.text.specs.Text.Laws.{◌⨾◌}
use Rattle.text.proofs.put_bytes_fitting.Goals as goal

pub loop-b-preserved : goal.loop-b-preserved
loop-b-preserved c =
    let h = c.loop-b-test.true in
    rw (add-one, take-suc c.args.src.now c.loop-b.b-index 0) (c.loop-b.invariant ⨾ c.put_byte-p.ensures)
