-- `Part::operations`: those of the counted slots are those of the part.
use Rattle.std.proofs.Common.{arith, ◌≡◌, ◌*◌, ◌-◌, drop, length-drop}
use Rattle.unwind_info.specs.UnwindInfo.{slot_count, frame_register, codes_of}
use Rattle.unwind_info.specs.Index.{operations_cut, codes_few_of}
use Rattle.unwind_info.proofs.part.Part.operations.Goals as goal

pub returns : goal.returns
unfolding codes_of
returns c =
    let bs = c.args.self.bytes.now in
    let n : c.size.result - 4 ≡ 2 * slot_count bs = omega (arith, c.size.ensures.0) in (
      rw (n, c.frame_register.ensures) (operations_cut (frame_register bs) (slot_count bs) (drop 4 bs) (omega (arith, length-drop 4 bs, c.args.self.whole))),
      omega (arith, codes_few_of bs, c.size.ensures.0, c.size.ensures.1),
    )
