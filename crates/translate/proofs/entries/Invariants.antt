-- `entries`: the bodies that the iterator has left are to be done (`Going`).
use Rattle.std.proofs.Common.{◌+◌, ◌≤◌, length}
use Rattle.translate.specs.Outcome.Laws.{Going}
use Rattle.book.specs.Bodies.{left}
use Rattle.translate.proofs.entries.Given as goal

abbrev pub invariant-loop-body : goal.invariant-loop-body
invariant-loop-body l =
    record {
      few : l.entries + length (left l.body-iterator) ≤ 1024;
      going : Going l.fn.book.words.now l.limit l.fn.text l.next l.entries (left l.body-iterator) l.text;
    }
