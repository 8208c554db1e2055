-- `put`: one info more is put.
use Rattle.std.proofs.Common.{arith, ap, length, length-append}
use Rattle.fill.specs.Fill.Laws.{fitting_room, fitting_put, fitting_none}
use Rattle.unwind_info.specs.UnwindInfo.{parts, info_words, infos_words}
use Rattle.unwind_info.proofs.Loops.{infos_first, infos_none}
use Rattle.unwind_info.proofs.infos.Infos.put.Goals as goal

pub put-p-requires : goal.put-p-requires
put-p-requires c =
    let x = c.in-Some.part.bytes.now in
    omega (
      arith,
      fitting_room c.loop-part.invariant.left,
      ap length (infos_first _ x _ c.in-Some.ensures.steps),
      length-append (info_words x) (infos_words (parts c.next.new.self.bytes.now)),
    )

pub loop-part-preserved : goal.loop-part-preserved
loop-part-preserved c = record {
  can = tt;
  ends = tt;
  left = fitting_put c.loop-part.invariant.left (infos_first _ c.in-Some.part.bytes.now _ c.in-Some.ensures.steps) c.put-p.ensures;
}

pub returns : goal.returns
returns c = (fitting_none c.loop-part.invariant.left (infos_none _ c.in-None.ensures.steps.0)).0
