-- `Rows::read`: one row more fits, or it decides.
use Rattle.std.proofs.Common.{◌≡◌, sym, ◌∙◌, ◌+◌, ◌-◌, arith}
use Rattle.text.specs.Tests.{and_no, and_yes}
use Rattle.dwarf.specs.Slices.{row_fits_in}
use Rattle.dwarf.proofs.Slices.{fit_end, fit_cut, fit_more}
use Rattle.dwarf.proofs.body.Rows.read.Goals as goal

pub returns-in_err-row : goal.returns-in_err-row
returns-in_err-row c =
    rw c.from_residual.ensures
    (sym c.loop.invariant ∙ fit_cut c.loop.rest.now (c.args.count - c.loop.counter) (omega arith) c.in_err-row.ensures)

pub returns-then-not-fits : goal.returns-then-not-fits
returns-then-not-fits c =
    let n = c.args.count - c.loop.counter in
    let r = c.in_ok-row.row in
    sym c.loop.invariant ∙ fit_more c.loop.rest.now n (omega arith) c.in_ok-row.ensures.1 c.in_ok-row.ensures.0
    ∙ sym (and_no (row_fits_in r.head.now r.rules.now) _ (sym c.fits.ensures ∙ c.if-not-fits.true))

pub loop-preserved : goal.loop-preserved
loop-preserved c =
    let n = c.args.count - c.loop.counter in
    let r = c.in_ok-row.row in
    let e : c.args.count - (c.loop.counter + 1) ≡ n - 1 = omega arith in
    rw (e, c.in_ok-row.ensures.2)
    (and_yes (row_fits_in r.head.now r.rules.now) _ (sym c.fits.ensures ∙ c.if-not-fits.false)
    ∙ sym (fit_more c.loop.rest.now n (omega arith) c.in_ok-row.ensures.1 c.in_ok-row.ensures.0) ∙ c.loop.invariant)

pub returns-then-not-is_empty : goal.returns-then-not-is_empty
returns-then-not-is_empty c =
    sym c.loop.invariant ∙ fit_end c.loop.rest.now (c.args.count - c.loop.counter) (omega arith) ∙ sym c.is_empty.ensures ∙ c.if-not-is_empty.true

pub invariant_of-result : goal.invariant_of-result
invariant_of-result c =
    let e = sym c.loop.invariant ∙ fit_end c.loop.rest.now (c.args.count - c.loop.counter) (omega arith) ∙ sym c.is_empty.ensures ∙ c.if-not-is_empty.false in
    record { fit = rw e tt }
