-- `reach`: what is left to scan gives what all gives, by the laws of `ScanLeft`.
use Rattle.std.proofs.Common.{refl}
use Rattle.arm64.specs.Encoder.{encoder, start_encoder}
use Rattle.arm64.proofs.Loops.{scan_stop, scan_turn, scan_done}
use Rattle.arm64.proofs.judge.reach.Goals as goal

pub loop-i-init : goal.loop-i-init
unfolding encoder start_encoder
loop-i-init c =
    let all = c.enumerate-i-items.ensures in
    rw (c.into_iter-i-iterator.ensures.into_iter_gives, all.source, all.count, c.rev.ensures.source, c.iter.ensures.rest, c.new-e.ensures)
    (record { rest = refl })

pub returns-in_default : goal.returns-in_default
returns-in_default c =
    let s = c.in-Some.ensures.steps in
    scan_stop c.loop-i.invariant _ _ s.0 (rw (c.line.ensures, c.from.ensures, s.1) at c.in_default.ensures)

pub loop-i-preserved : goal.loop-i-preserved
loop-i-preserved c =
    let s = c.in-Some.ensures.steps in
    rw s.2 (scan_turn c.loop-i.invariant _ _ s.0 (rw (c.line.ensures, c.from.ensures, s.1) at c.in-Some-step.ensures))

pub returns : goal.returns
returns c = scan_done c.loop-i.invariant c.in-None.ensures.steps.0.0
