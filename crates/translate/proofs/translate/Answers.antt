-- `translate`: refusals 1, 2, 3 or the run, each by its law.
use Rattle.std.proofs.Common.{◌≡◌}
use Rattle.translate.specs.Outcome.Laws.{called_1, called_2, called_3, called_ran}
use Rattle.translate.proofs.translate.Goals as goal

pub returns-in_default : goal.returns-in_default
returns-in_default c = rw c.refused.ensures (called_1 c.args.book.now c.args.limit c.args.work.now c.args.text.now c.in_default.ensures.cases)

pub returns-then-limit-gt-MOST_LIMIT : goal.returns-then-limit-gt-MOST_LIMIT
returns-then-limit-gt-MOST_LIMIT c =
    let a = c.args in
    let w = c.in-Some.ensures.cases in
    rw c.refused-then-limit-gt-MOST_LIMIT.ensures
    (called_2 a.book.now a.limit a.work.now a.text.now w.enough c.in-Some.work.now w.same c.if-limit-gt-MOST_LIMIT.true)

pub returns-in-Ok : goal.returns-in-Ok
returns-in-Ok c =
    let a = c.args in
    let r = c.run in
    let e : c.in-Ok.book.words.now ≡ a.book.now = c.in-Ok.ensures in
    called_ran a.book.now a.limit a.work.now a.text.now c.in-Some.ensures.cases.enough r.new.work c.if-limit-gt-MOST_LIMIT.false
    (rw e at c.in-Ok.book.kept) r.new.text r.result r.auto.text (rw e at r.ensures.ended) r.ensures.work_after

pub returns-in-Err : goal.returns-in-Err
returns-in-Err c =
    let a = c.args in
    let w = c.in-Some.ensures.cases in
    rw (c.refused-in-Err.ensures, c.in-Err.ensures.0)
    (called_3 a.book.now a.limit a.work.now a.text.now w.enough c.in-Some.work.now w.same c.if-limit-gt-MOST_LIMIT.false c.in-Err.ensures.1)
