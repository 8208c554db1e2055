-- `Part::put`: one operation more is put; then the count.
use Rattle.std.proofs.Common.{arith, ap, sym, ◌≡◌, ◌-◌, ◌/◌, length}
use Rattle.text.specs.Text.Laws.{put_length}
use Rattle.fill.specs.Fill.Laws.{fitting_all, fitting_room, fitting_put, fitting_none}
use Rattle.unwind_info.specs.UnwindInfo.{codes_of}
use Rattle.unwind_info.specs.Index.{ops_length, info_size}
use Rattle.unwind_info.proofs.Loops.{ops_first, ops_none, info_put}
use Rattle.unwind_info.proofs.part.Part.put.Goals as goal

pub put_words-first-requires : goal.put_words-first-requires
put_words-first-requires c = omega (arith, info_size c.args.self.bytes.now, c.requires)

pub loop-op-init : goal.loop-op-init
loop-op-init c = record {
  can = tt;
  ends = tt;
  left =
      let p = c.args.self.bytes.now in
      rw c.operations-operations.ensures.0
      (fitting_all (omega (arith, info_size p, ops_length (codes_of p), c.requires, c.put_words-first.ensures.next, put_length c.put_words-first.ensures)) (omega arith));
}

pub put_words-p-requires : goal.put_words-p-requires
put_words-p-requires c =
    rw c.words.ensures (omega (arith, fitting_room c.loop-op.invariant.left, ap length (ops_first _ _ c.in-Some.ensures.steps)))

pub loop-register-init : goal.loop-register-init
loop-register-init c =
    let f = fitting_put c.loop-op.invariant.left (ops_first _ _ c.in-Some.ensures.steps) (rw c.words.ensures at c.put_words-p.ensures) in
    record { left = fitting_all (fitting_room f) (omega (arith, put_length c.put_words-p.ensures)); few = omega arith }

pub put_words-p-requires-in-Some-push : goal.put_words-p-requires-in-Some-push
put_words-p-requires-in-Some-push c =
    rw c.words-in-Some-push.ensures (omega (arith, fitting_room c.loop-register.invariant.left, ap length (ops_first _ _ c.in-Some-push.ensures)))

pub loop-register-preserved : goal.loop-register-preserved
loop-register-preserved c = record {
  left =
      fitting_put c.loop-register.invariant.left (ops_first _ _ c.in-Some-push.ensures)
      (rw c.words-in-Some-push.ensures at c.put_words-p-in-Some-push.ensures);
  few = omega (arith, c.loop-register.invariant.few, ap length c.in-Some-push.ensures);
}

pub loop-op-preserved : goal.loop-op-preserved
loop-op-preserved c =
    let f = fitting_put c.loop-op.invariant.left (ops_first _ _ c.in-Some.ensures.steps) (rw c.words.ensures at c.put_words-p.ensures) in
    let g = c.loop-register.invariant.left.left in
    record { can = tt; ends = tt; left = fitting_put f (sym g.rest) g.put }

pub loop-op-smaller : goal.loop-op-smaller
loop-op-smaller c = omega (arith, c.loop-register.invariant.few, ap length c.in-Some.ensures.steps)

pub overflow_cast-p : goal.overflow_cast-p
overflow_cast-p c =
    let p = c.args.self.bytes.now in
    let d = fitting_none c.loop-op.invariant.left (ops_none _ c.in_default.ensures.steps.0) in
    record { fits = omega (arith, d.1, ops_length (codes_of p), c.operations-operations.ensures.1) }

pub returns : goal.returns
returns c =
    let p = c.args.self.bytes.now in
    let d = fitting_none c.loop-op.invariant.left (ops_none _ c.in_default.ensures.steps.0) in
    let n : (c.loop-op.p - c.put_words-first.result) / 3 ≡ length (codes_of p) = omega (arith, d.1, ops_length (codes_of p)) in
    rw c.set_word.ensures (info_put p (rw (c.frame_register.ensures, c.frame_offset.ensures) at c.put_words-first.ensures) d.0 n c.requires)
