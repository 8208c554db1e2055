-- `read`: by the laws of the layout.
use Rattle.std.proofs.Common.{◌≡◌, arith, ◌∙◌}
use Rattle.entry.specs.Entry.{word}
use Rattle.arm64.specs.Arm64.{op_count}
use Rattle.arm64.specs.Index.{in_front, in_fours, too_many, other_length, unfit, holds}
use Rattle.arm64.proofs.body.Body.read.Goals as goal
use Rattle.arm64.proofs.body.Body.read.Goals.{then-count-gt-MOST_OPS-via-then-count-gt-MOST_OPS, then-count-gt-MOST_OPS-via-else-count-gt-MOST_OPS+then-rest-count}

pub returns-in_err-address : goal.returns-in_err-address
returns-in_err-address c = rw c.from_residual.ensures (other_length c.args.words.now (λ e. omega (arith, e, c.in_err-address.ensures.cases)))

pub returns-then-count-gt-MOST_OPS : goal.returns-then-count-gt-MOST_OPS
returns-then-count-gt-MOST_OPS c =
    let ws = c.args.words.now in
    let front = c.in_ok-address.ensures.cases in
    let n : word c.in_ok-address.field-0-0.now 2 ≡ op_count ws = in_front ws _ 2 front.0 (omega arith) in
    elim c.then-count-gt-MOST_OPS.branch [
      | then-count-gt-MOST_OPS-via-then-count-gt-MOST_OPS w ↦ too_many ws (omega (arith, n, w.if-count-gt-MOST_OPS.true))
      | then-count-gt-MOST_OPS-via-else-count-gt-MOST_OPS+then-rest-count w ↦ other_length ws (λ e. omega (arith, e, n, front.2, w.if-rest-count.true))
    ]

pub returns-then-not-ops_fit : goal.returns-then-not-ops_fit
returns-then-not-ops_fit c =
    let ws = c.args.words.now in
    let cut = c.in_ok-address.ensures.cases in
    let all = c.as_chunks.ensures.front ∙ in_fours ws _ _ cut.0 cut.1 c.if-rest-count.false in
    unfit ws (rw all at c.if-not-ops_fit.ensures)

pub returns : goal.returns
returns c =
    let ws = c.args.words.now in
    let cut = c.in_ok-address.ensures.cases in
    let n : word c.in_ok-address.field-0-0.now 2 ≡ op_count ws = in_front ws _ 2 cut.0 (omega arith) in
    let all = c.as_chunks.ensures.front ∙ in_fours ws _ _ cut.0 cut.1 c.if-rest-count.false in
    rw (in_front ws _ 0 cut.0 (omega arith), in_front ws _ 1 cut.0 (omega arith), c.counted.ensures, all)
    (holds ws (omega (arith, n, c.if-count-gt-MOST_OPS.false)) (omega (arith, n, cut.2, c.if-rest-count.false)) (rw all at c.if-not-ops_fit.ensures))
