-- `read`: one part more is looked at, and turned away or counted; then there are too few, too many, or neither.
use Rattle.std.proofs.Common.{arith, rules, refl, le-leb}
use Rattle.std.proofs.lemmas.Bool.{lt-leb}
use Rattle.unwind_info.proofs.Loops.{check_more, check_stop, check_end}
use Rattle.unwind_info.proofs.infos.Infos.read.Goals as goal
use Rattle.unwind_info.proofs.infos.Infos.read.Goals.{in_default-via-then-parts-lt1, in_default-via-else-parts-lt1+else-parts-lt33}

pub returns-in_err-part-clause-err : goal.returns-in_err-part-clause-err
returns-in_err-part-clause-err c =
    let e = check_stop c.loop-rest.invariant (search rules) c.in_err-part.field-0.0 c.in_err-part.ensures.err in
    search (rules, e)

pub loop-rest-preserved : goal.loop-rest-preserved
loop-rest-preserved c =
    let o = c.in_ok-part.ensures.ok in
    let n = rw o.0 at c.slot_count-slots.ensures in
    rw (c.behind-rest.ensures, n.0, o.0) (check_more c.loop-rest.invariant (search rules) o.1 (omega (arith, n.0, n.1)))

pub invariant_of-result : goal.invariant_of-result
invariant_of-result c =
    let h = check_end c.loop-rest.invariant (search rules) in
    record { whole = h.whole; counted = h.counted; few = omega arith; slots_few = omega (arith, h.slots); most = h.most }

pub returns-in-1-to-32-clause-ok : goal.returns-in-1-to-32-clause-ok
returns-in-1-to-32-clause-ok c =
    let h = check_end c.loop-rest.invariant (search rules) in
    (refl, rw (h.number, le-leb 1 c.loop-rest.parts (omega arith), le-leb c.loop-rest.parts 32 (omega arith)))

pub returns-in_default-clause-err : goal.returns-in_default-clause-err
returns-in_default-clause-err c =
    let h = check_end c.loop-rest.invariant (search rules) in
    elim c.in_default.branch [
      | in_default-via-then-parts-lt1 w ↦ rw (h.number, lt-leb 1 c.loop-rest.parts (omega arith))
      | in_default-via-else-parts-lt1+else-parts-lt33 w ↦ rw (h.number, le-leb 1 c.loop-rest.parts (omega arith), lt-leb c.loop-rest.parts 32 (omega arith))
    ]
