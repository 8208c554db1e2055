-- `step`: by the test, which is the definition's, and what an operation in reach keeps in range.
use Rattle.std.proofs.Common.{◌≡◌, true, ◌∙◌, sym}
use Rattle.arm64.specs.Arm64.{fits}
use Rattle.arm64.specs.Encoder.{stepped, step_fits, Small, line_bounds}
use Rattle.arm64.proofs.judge.InReach.step.Goals as goal
use Rattle.arm64.proofs.judge.InReach.step.Goals.{Else-not-fits_line}

pub returns-then-not-fits_line : goal.returns-then-not-fits_line
returns-then-not-fits_line c =
    let a = c.args in
    sym (step_fits a.address a.self.state a.op) ∙ (rw (c.value.ensures, c.step-state.ensures) at (sym c.if-not-fits_line.ensures))

-- an operation that passes
in_reach : (c : Else-not-fits_line) → fits c.args.address c.args.self.state.stack_size c.args.self.state.last c.args.op ≡ true
in_reach c =
    let a = c.args in
    sym (step_fits a.address a.self.state a.op) ∙ (rw (c.value.ensures, c.step-state.ensures) at (sym c.if-not-fits_line.ensures))

pub invariant_of-result : goal.invariant_of-result
invariant_of-result c =
    let a = c.args in
    let s : Small (stepped a.self.state a.op) = line_bounds a.address a.self.state a.op a.self.total a.self.last (rw (in_reach (goal.at.invariant_of-result c).Else-not-fits_line) tt) in
    rw c.step-state.ensures (record { total = s.total; last = s.last; saved = s.saved })

pub returns : goal.returns
returns c = record { fits_is = in_reach (goal.at.returns c).Else-not-fits_line; state_is = c.step-state.ensures }
