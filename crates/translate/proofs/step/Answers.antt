-- `step`: the entry's refusal, 8, 9, or the copy, each by its law.
use Rattle.std.proofs.Common.{◌<◌, length, arith, rules}
use Rattle.text.specs.Text.{MAX}
use Rattle.book.specs.Kind.{kind_number}
use Rattle.translate.specs.Outcome.{entry_of}
use Rattle.translate.specs.Outcome.Laws.{stops, too_long, no_room, copied}
use Rattle.translate.proofs.step.Goals as goal

pub returns-in_err-wrote : goal.returns-in_err-wrote
returns-in_err-wrote c =
    let a = c.args in
    let s = stops (entry_of (kind_number a.kind) a.limit a.next.last a.body.now) a.work.now c.process.new.out a.text.now a.next.used
    c.in_err-wrote.field-0.0 c.in_err-wrote.ensures in
    search (rules, s)

pub returns-then-size-gt-LONGEST : goal.returns-then-size-gt-LONGEST
returns-then-size-gt-LONGEST c =
    let a = c.args in
    too_long (entry_of (kind_number a.kind) a.limit a.next.last a.body.now) a.work.now c.process.new.out a.text.now a.next.used
    c.in_ok-wrote.wrote c.in_ok-wrote.ensures (omega arith) (omega arith) (omega arith) c.if-size-gt-LONGEST.true

pub returns-then-text-next : goal.returns-then-text-next
returns-then-text-next c =
    let a = c.args in
    no_room (entry_of (kind_number a.kind) a.limit a.next.last a.body.now) a.work.now c.process.new.out a.text.now a.next.used
    c.in_ok-wrote.wrote c.in_ok-wrote.ensures (omega arith) (omega arith) (omega arith) c.if-size-gt-LONGEST.false c.if-text-next.true

pub returns : goal.returns
returns c =
    let a = c.args in
    let small : length a.text.now < MAX = omega arith in
    copied (entry_of (kind_number a.kind) a.limit a.next.last a.body.now) a.work.now c.process.new.out a.text.now a.next.used
    c.in_ok-wrote.wrote c.in_ok-wrote.ensures (omega arith) (omega arith) small c.if-size-gt-LONGEST.false c.if-text-next.false _ _ c.put_front.ensures
