-- `put_chain`: one operation more is put.
use Rattle.std.proofs.Common.{◌+◌, ◌^◌, ◌<◌, T, ap, ltb, ltb→lt, arith}
use Rattle.text.specs.Text.Laws.{left_all, left_put, left_as, left_none}
use Rattle.text.specs.Tests.{and_l, and_r}
use Rattle.x64.specs.X64.{growth_of, value_of, run, op_text}
use Rattle.x64.specs.Index.{within, reaches}
use Rattle.x64.proofs.write.put_chain.Goals as goal

pub loop-op-init : goal.loop-op-init
loop-op-init c =
    rw (c.into_iter-op-iterator.ensures.into_iter_gives, c.chain-op-items.ensures)
    (record { reach = c.requires; text = left_all (omega arith) (omega arith) })

pub overflow_add-total : goal.overflow_add-total
unfolding reaches
overflow_add-total c =
    let S = c.loop-op.total in
    let o = c.in-Some.op in
    let w : T (within S o) = and_l (within S o) _ (rw c.in-Some.ensures.steps at c.loop-op.invariant.reach) in
    let l : S + growth_of o < 2 ^ 31 = ltb→lt (S + growth_of o) (2 ^ 31) (and_r (ltb (value_of o) (2 ^ 31)) _ w) in
    record { fits = omega (arith, c.growth-total.ensures) }

pub loop-op-preserved : goal.loop-op-preserved
unfolding reaches run
loop-op-preserved c =
    let S = c.loop-op.total in
    let o = c.in-Some.op in
    rw c.growth-total.ensures
    (record {
      reach = and_r (within S o) _ (rw c.in-Some.ensures.steps at c.loop-op.invariant.reach);
      text = left_put (left_as c.loop-op.invariant.text (ap (run op_text S) c.in-Some.ensures.steps)) c.put_op-p.ensures;
    })

pub returns : goal.returns
unfolding run
returns c = left_none (left_as c.loop-op.invariant.text (ap (run op_text c.loop-op.total) c.in-None.ensures.steps.0))
