-- `put_bytes`: one more byte is stored.
use Rattle.std.proofs.Common.{arith, add-one, refl, ◌<◌, length}
use lib.Seq.{take-suc}
use Rattle.text.specs.Text.Laws.{◌⨾◌}
use Rattle.text.proofs.put_bytes.Goals as goal

pub loop-i-preserved : goal.loop-i-preserved
loop-i-preserved c =
    let s = c.args.src.now in
    let h : c.loop-i.i < length s = omega arith in
    record {
      inside = omega arith;
      put = rw (add-one, take-suc s c.loop-i.i 0) (c.loop-i.invariant.put ⨾ record { bytes = refl; next = omega arith; short = omega arith });
    }
