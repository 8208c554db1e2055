-- `entries`: the next entry ends the walk or goes on.
use Rattle.book.specs.Bodies.{left}
use Rattle.translate.specs.Outcome.Laws.{going_stop, going_end}
use Rattle.translate.proofs.entries.Goals as goal

pub returns-in-Err : goal.returns-in-Err
returns-in-Err c =
    going_stop c.loop-body.invariant.going c.in-Some.body.now (left c.next.new.self) c.in-Some.ensures.steps c.in-Err.refusal c.step.new.text
    (rw c.kind-kind.ensures at c.in-Err.ensures)

pub returns : goal.returns
returns c = going_end c.loop-body.invariant.going c.in-None.ensures.steps.0
