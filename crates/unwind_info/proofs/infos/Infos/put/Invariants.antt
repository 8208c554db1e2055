-- `put`: the infos of the parts left are what is left to put.
use Rattle.fill.specs.Fill.Laws.{Fitting}
use Rattle.unwind_info.specs.UnwindInfo.{parts, infos_words}
use Rattle.unwind_info.proofs.infos.Infos.put.Given as goal

abbrev pub invariant-loop-part : goal.invariant-loop-part
invariant-loop-part l = record {
  can : (goal.iterator-loop-part).can_next l.part-iterator;
  ends : (goal.iterator-loop-part).is_finite l.part-iterator;
  left : Fitting l.fn.out l.at (infos_words (parts l.fn.self.bytes.now)) l.out l.p (infos_words (parts l.part-iterator.bytes.now));
}
