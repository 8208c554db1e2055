-- `judge`: one test after the other.
use Rattle.std.proofs.Common.{◌≡◌, None, arith}
use Rattle.std.proofs.lemmas.Result.{err_from_is_err_and}
use Rattle.refusal.specs.declared.Refusal.TheVariants.{Layout}
use Rattle.arm64.specs.Arm64.{arm_judged}
use Rattle.arm64.specs.Index.{skipped, out_of_reach, admitted}
use Rattle.arm64.proofs.judge.judge.Goals as goal

pub returns-in_err-body : goal.returns-in_err-body
unfolding arm_judged
returns-in_err-body c =
    let p = err_from_is_err_and c.from_residual.result c.from_residual.ensures.1 in
    let none : c.read.result ≡ None = grind arith in
    let refused : c.in_err-body.field-0.0 ≡ Layout = grind arith in
    rw (p.1, p.2, refused, rw none at c.read.ensures)

pub returns-then-is_undecodable : goal.returns-then-is_undecodable
returns-then-is_undecodable c = skipped (rw (c.ok_or.ensures.ok_part, c.in_ok-body.was) at c.read.ensures) c.if-is_undecodable.ensures

pub returns-then-not-reach : goal.returns-then-not-reach
returns-then-not-reach c = out_of_reach (rw (c.ok_or.ensures.ok_part, c.in_ok-body.was) at c.read.ensures) c.if-is_undecodable.ensures c.if-not-reach.ensures

pub returns : goal.returns
returns c = admitted (rw (c.ok_or.ensures.ok_part, c.in_ok-body.was) at c.read.ensures) c.if-is_undecodable.ensures c.if-not-reach.ensures
