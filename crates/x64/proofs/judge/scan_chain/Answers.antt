-- `scan_chain`: an operation out of reach is refused by 6, a second frame register by 7.
use Rattle.std.proofs.Common.{◌≡◌, sym, ap, ◌∙◌, Some, None, arith}
use Rattle.std.proofs.lemmas.Result.{err_from_is_err_and}
use Rattle.refusal.specs.declared.Refusal.TheVariants.{Reach}
use Rattle.x64.specs.Scan.{scanned}
use Rattle.x64.specs.Scan.Laws.{step_none, step_some, lost_is, twice_is}
use Rattle.x64.proofs.judge.scan_chain.Goals as goal

pub loop-op-init : goal.loop-op-init
loop-op-init c = rw (c.into_iter-op-iterator.ensures.into_iter_gives, c.chain-op-items.ensures, c.start-scan.ensures)

pub returns-in_err-scan : goal.returns-in_err-scan
returns-in_err-scan c =
    let p = err_from_is_err_and c.from_residual.result c.from_residual.ensures.1 in
    let none : c.step.result ≡ None = grind arith in
    let reach : c.in_err-scan.field-0.0 ≡ Reach = grind arith in
    rw (p.1, p.2, reach)
    (lost_is c.args.body.words.now c.args.body.fits
    (sym c.loop-op.invariant ∙ ap (scanned c.loop-op.scan) c.in-Some.ensures.steps ∙ step_none c.loop-op.scan c.in-Some.op _ (sym c.step.ensures ∙ none)))

pub loop-op-preserved : goal.loop-op-preserved
loop-op-preserved c =
    let some : c.step.result ≡ Some c.in_ok-scan.scan = grind arith in
    sym (step_some c.loop-op.scan c.in-Some.op _ c.in_ok-scan.scan (sym c.step.ensures ∙ some)) ∙ ap (scanned c.loop-op.scan) (sym c.in-Some.ensures.steps) ∙ c.loop-op.invariant

pub returns-then-scan : goal.returns-then-scan
unfolding scanned
returns-then-scan c =
    let e = sym c.loop-op.invariant ∙ ap (scanned c.loop-op.scan) c.in-None.ensures.steps.0 in
    twice_is c.args.body.words.now c.args.body.fits c.loop-op.scan e ∙ rw c.if-scan.true

pub returns : goal.returns
unfolding scanned
returns c =
    let e = sym c.loop-op.invariant ∙ ap (scanned c.loop-op.scan) c.in-None.ensures.steps.0 in
    (twice_is c.args.body.words.now c.args.body.fits c.loop-op.scan e ∙ rw c.if-scan.false, e)
