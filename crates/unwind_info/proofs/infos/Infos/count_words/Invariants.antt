-- `count_words`: the words of the parts left are what is left to count.
use Rattle.std.proofs.Common.{◌≡◌, ◌+◌, length}
use Rattle.unwind_info.specs.UnwindInfo.{parts, infos_words}
use Rattle.unwind_info.proofs.infos.Infos.count_words.Given as goal

abbrev pub invariant-loop-part : goal.invariant-loop-part
invariant-loop-part l = record {
  can : (goal.iterator-loop-part).can_next l.part-iterator;
  ends : (goal.iterator-loop-part).is_finite l.part-iterator;
  sum : l.words + length (infos_words (parts l.part-iterator.bytes.now)) ≡ 4 + length (infos_words (parts l.fn.self.bytes.now));
}
