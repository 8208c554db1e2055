-- `count_words`: one info's words more are counted.
use Rattle.std.proofs.Common.{arith, ap, length, length-append}
use Rattle.unwind_info.specs.UnwindInfo.{parts, info_words, infos_words}
use Rattle.unwind_info.proofs.Loops.{infos_first}
use Rattle.unwind_info.proofs.infos.Infos.count_words.Goals as goal

pub overflow_add-words : goal.overflow_add-words
overflow_add-words c = record { fits = omega (arith, c.loop-part.invariant.sum, c.args.self.most, c.args.self.few, c.args.self.slots_few, c.count_words-words.ensures.1) }

pub loop-part-preserved : goal.loop-part-preserved
loop-part-preserved c = record {
  can = tt;
  ends = tt;
  sum =
      let x = c.in-Some.part.bytes.now in
      omega (
        arith,
        c.loop-part.invariant.sum,
        c.count_words-words.ensures.0,
        ap length (infos_first _ x _ c.in-Some.ensures.steps),
        length-append (info_words x) (infos_words (parts c.next.new.self.bytes.now)),
      );
}
