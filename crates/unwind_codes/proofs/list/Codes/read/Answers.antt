-- `read`: a code that is cut, one behind which the list goes on, one that ends it, and the bytes' end.
use Rattle.std.proofs.Common.{◌≡◌, None, arith, rules, sym, ◌∙◌}
use Rattle.std.proofs.lemmas.Result.{err_from_is_err_and}
use Rattle.refusal.specs.declared.Refusal.TheVariants.{Code}
use Rattle.unwind_codes.proofs.Loops.{shorter, check_cut, check_ends, check_more, check_end}
use Rattle.unwind_codes.proofs.list.Codes.read.Goals as goal
use Rattle.unwind_codes.proofs.list.Codes.read.Goals.{else-loop-rest-test, then-loop-rest-test+in_ok-code+then-ends}

pub returns-in_err-code-clause-err : goal.returns-in_err-code-clause-err
returns-in_err-code-clause-err c =
    let p = err_from_is_err_and c.from_residual.result c.from_residual.ensures.1 in
    let none : c.read.result ≡ None = grind arith in
    let refused : c.in_err-code.field-0.0 ≡ Code = grind arith in
    rw (p.1, p.2, refused) (sym (check_cut c.loop-rest.invariant (search rules) (rw none at c.read.ensures)))

pub loop-rest-smaller : goal.loop-rest-smaller
loop-rest-smaller c =
    let code = rw (c.ok_or.ensures.ok_part, c.in_ok-code.was) at c.read.ensures in
    rw (c.rest-rest.ensures, code.0) (shorter c.loop-rest.rest.now (search rules))

pub loop-rest-preserved : goal.loop-rest-preserved
loop-rest-preserved c =
    let code = rw (c.ok_or.ensures.ok_part, c.in_ok-code.was) at c.read.ensures in
    rw (c.rest-rest.ensures, code.0) (check_more c.loop-rest.invariant (search rules) code.1 (rw code.0 at (sym c.if-ends.false ∙ c.ends.ensures)))

pub counted-requires-clause-counted : goal.counted-requires-clause-counted
counted-requires-clause-counted c = elim c.loop-rest-test.branch [
  | else-loop-rest-test w ↦ rw w.count-is (check_end c.loop-rest.invariant (search rules)).size
  | then-loop-rest-test+in_ok-code+then-ends w ↦
      let code = rw (w.ok_or.ensures.ok_part, w.in_ok-code.was) at w.read.ensures in
      rw w.count-is (check_ends c.loop-rest.invariant (search rules) code.1 (rw code.0 at (sym w.if-ends.true ∙ w.ends.ensures))).size
]

pub counted-requires-clause-wholes : goal.counted-requires-clause-wholes
counted-requires-clause-wholes c = elim c.loop-rest-test.branch [
  | else-loop-rest-test w ↦ rw (check_end c.loop-rest.invariant (search rules)).wholes tt
  | then-loop-rest-test+in_ok-code+then-ends w ↦
      let code = rw (w.ok_or.ensures.ok_part, w.in_ok-code.was) at w.read.ensures in
      rw (check_ends c.loop-rest.invariant (search rules) code.1 (rw code.0 at (sym w.if-ends.true ∙ w.ends.ensures))).wholes tt
]
