-- `put_lines`: one more line is put, by the laws of `LinesLeft`.
use Rattle.std.proofs.Common.{arith}
use Rattle.text.specs.Text.Laws.{left_all}
use Rattle.arm64.specs.Encoder.{encoder, start_encoder}
use Rattle.arm64.proofs.Loops.{some_state, line_turn, lines_done}
use Rattle.arm64.proofs.write.put_lines.Goals as goal

pub loop-i-init : goal.loop-i-init
unfolding encoder start_encoder
loop-i-init c =
    let all = c.enumerate-i-items.ensures in
    rw (c.into_iter-i-iterator.ensures.into_iter_gives, all.source, all.count, c.rev.ensures.source, c.iter.ensures.rest, c.new-e.ensures)
    (record { reach = c.requires; text = left_all (omega arith) (omega arith) })

pub unwrap-e-requires : goal.unwrap-e-requires
unwrap-e-requires c =
    let s = c.in-Some.ensures.steps in
    some_state c.loop-i.invariant _ _ s.0 _ _ (rw (c.line.ensures, c.from.ensures, s.1) at c.step.ensures)

pub loop-i-preserved : goal.loop-i-preserved
loop-i-preserved c =
    let s = c.in-Some.ensures.steps in
    let now = rw (c.unwrap-e.ensures, c.line.ensures, c.from.ensures, s.1) at c.step.ensures in
    rw s.2 (line_turn c.loop-i.invariant _ _ s.0 now (rw s.1 at c.put_line-p.ensures))

pub returns : goal.returns
returns c = lines_done c.loop-i.invariant c.in-None.ensures.steps.0.0
