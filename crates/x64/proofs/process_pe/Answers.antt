-- `process_pe`: each refusal and skipping in their order, then the line.
use Rattle.std.proofs.Common.{◌≡◌, refl, sym, ◌∙◌, None, Some, arith}
use Rattle.std.proofs.lemmas.Result.{err_from_is_err_and}
use Rattle.refusal.specs.declared.Refusal.TheVariants.{Layout}
use Rattle.text.specs.Text.Laws.{put_none}
use Rattle.x64.specs.X64.{x64_entry}
use Rattle.x64.specs.Index.{judged_broken, judged_skipped, judged_long, judged_chain}
use Rattle.x64.proofs.process_pe.Goals as goal

pub returns-in_err-body : goal.returns-in_err-body
unfolding x64_entry
returns-in_err-body c =
    let p = err_from_is_err_and c.from_residual.result c.from_residual.ensures.1 in
    let none : c.read.result ≡ None = grind arith in
    let layout : c.in_err-body.field-0.0 ≡ Layout = grind arith in
    rw (p.1, p.2, layout, judged_broken c.args.limit c.args.body.now (rw none at c.read.ensures)) (record { number_is = refl; same = refl })

pub returns-then-is_skipped : goal.returns-then-is_skipped
unfolding x64_entry
returns-then-is_skipped c =
    let some : c.read.result ≡ Some c.in_ok-body.body = grind arith in
    rw (← (rw some at c.read.ensures), judged_skipped c.args.limit _ c.in_ok-body.body.fits (sym c.is_skipped.ensures ∙ c.if-is_skipped.true))
    (record { number_is = refl; next_is = refl; put = put_none (omega arith) (omega arith) })

pub returns-then-limit-info_count : goal.returns-then-limit-info_count
unfolding x64_entry
returns-then-limit-info_count c =
    let some : c.read.result ≡ Some c.in_ok-body.body = grind arith in
    rw (
      ← (rw some at c.read.ensures),
      judged_long c.args.limit _ c.in_ok-body.body.fits (sym c.is_skipped.ensures ∙ c.if-is_skipped.false) (omega (arith, c.info_count.ensures)),
    ) (record { number_is = refl; same = refl })

pub returns-in_err-scan : goal.returns-in_err-scan
unfolding x64_entry
returns-in_err-scan c =
    let some : c.read.result ≡ Some c.in_ok-body.body = grind arith in
    let p = err_from_is_err_and c.from_residual-in_err-scan.result c.from_residual-in_err-scan.ensures.1 in
    rw (
      p.1,
      p.2,
      ← (rw some at c.read.ensures),
      judged_chain c.args.limit _ c.in_ok-body.body.fits (sym c.is_skipped.ensures ∙ c.if-is_skipped.false) (omega (arith, c.info_count.ensures)),
      c.in_err-scan.ensures,
    ) (record { number_is = refl; same = refl })

pub put_entry-at-requires : goal.put_entry-at-requires
put_entry-at-requires c = c.in_ok-scan.ensures.1

pub returns : goal.returns
unfolding x64_entry
returns c =
    let some : c.read.result ≡ Some c.in_ok-body.body = grind arith in
    rw (
      ← (rw some at c.read.ensures),
      judged_chain c.args.limit _ c.in_ok-body.body.fits (sym c.is_skipped.ensures ∙ c.if-is_skipped.false) (omega (arith, c.info_count.ensures)),
      c.in_ok-scan.ensures.0,
    ) (record { number_is = refl; next_is = refl; put = c.put_entry-at.ensures })
