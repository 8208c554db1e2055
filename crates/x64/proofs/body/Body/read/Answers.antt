-- `Body::read`: one info more fits, or it decides.
use Rattle.std.proofs.Common.{◌≡◌, sym, ◌∙◌, ◌+◌, ◌-◌, length, drop, arith}
use Rattle.std.proofs.lemmas.List.{take_all, length-drop}
use Rattle.text.specs.Tests.{and_no, and_yes}
use Rattle.x64.specs.Index.{fits_in, fit_end, fit_cut, fit_more, layout_starts, layout_no}
use Rattle.x64.proofs.body.Body.read.Goals as goal
use Rattle.x64.proofs.body.Body.read.Goals.{in_default-via-then-word-lt1, in_default-via-else-word-lt1+else-this-lt33}

pub returns-in_default : goal.returns-in_default
returns-in_default c = layout_no c.args.words.now (λ h k. elim c.in_default.branch [
  | in_default-via-then-word-lt1 w ↦ omega (arith, c.word.ensures, w)
  | in_default-via-else-word-lt1+else-this-lt33 w ↦ omega (arith, c.word.ensures, w)
])

pub loop-init : goal.loop-init
loop-init c =
    let ws = c.args.words.now in
    let n = c.word.result in
    let e : n - 0 ≡ n = omega arith in
    rw (take_all (length ws - 4) (drop 4 ws) (omega (arith, length-drop 4 ws)), e, c.word.ensures)
    (layout_starts ws (omega (arith, c.word.ensures)) (omega (arith, c.word.ensures)))

pub returns-in_err-info : goal.returns-in_err-info
returns-in_err-info c =
    rw c.from_residual.ensures
    (sym c.loop.invariant ∙ fit_cut c.loop.rest.now (c.word.result - c.loop.counter) (omega arith) c.in_err-info.ensures)

pub returns-then-not-fits : goal.returns-then-not-fits
returns-then-not-fits c =
    let n = c.word.result - c.loop.counter in
    sym c.loop.invariant ∙ fit_more c.loop.rest.now n (omega arith) c.in_ok-info.ensures.1 c.in_ok-info.ensures.0
    ∙ sym (and_no (fits_in c.in_ok-info.info.base c.in_ok-info.info.ops.now) _ (sym c.fits.ensures ∙ c.if-not-fits.true))

pub loop-preserved : goal.loop-preserved
loop-preserved c =
    let n = c.word.result - c.loop.counter in
    let e : c.word.result - (c.loop.counter + 1) ≡ n - 1 = omega arith in
    rw (e, c.in_ok-info.ensures.2)
    (and_yes (fits_in c.in_ok-info.info.base c.in_ok-info.info.ops.now) _ (sym c.fits.ensures ∙ c.if-not-fits.false)
    ∙ sym (fit_more c.loop.rest.now n (omega arith) c.in_ok-info.ensures.1 c.in_ok-info.ensures.0) ∙ c.loop.invariant)

pub returns-then-not-is_empty : goal.returns-then-not-is_empty
returns-then-not-is_empty c =
    sym c.loop.invariant ∙ fit_end c.loop.rest.now (c.word.result - c.loop.counter) (omega arith) ∙ sym c.is_empty.ensures ∙ c.if-not-is_empty.true

pub invariant_of-result : goal.invariant_of-result
invariant_of-result c =
    let e = sym c.loop.invariant ∙ fit_end c.loop.rest.now (c.word.result - c.loop.counter) (omega arith) ∙ sym c.is_empty.ensures ∙ c.if-not-is_empty.false in
    record { fits = rw e tt }
