-- `Part::put`: the operations left are what is left to put.
use Rattle.std.specs.Prelude.{◌≤◌, length}
use Rattle.fill.specs.Fill.Laws.{Fitting}
use Rattle.unwind_info.specs.UnwindInfo.{op_words, codes_of}
use Rattle.unwind_info.specs.Index.{operations}
use Rattle.unwind_info.proofs.part.Part.put.Given as goal

abbrev pub invariant-loop-op : goal.invariant-loop-op
invariant-loop-op l = record {
  can : (goal.iterator-loop-op).can_next l.operations;
  ends : (goal.iterator-loop-op).is_finite l.operations;
  left : Fitting l.initial.out l.first (op_words (codes_of l.self.bytes.now)) l.out l.p (op_words (operations l.operations.frame l.operations.slots.now));
}

abbrev pub decreases-loop-op : goal.decreases-loop-op
decreases-loop-op l = length (operations l.operations.frame l.operations.slots.now)

-- the pushes that were put, and the operations behind them
abbrev pub invariant-loop-register : goal.invariant-loop-register
invariant-loop-register l =
    let before = operations l.initial.operations.frame l.initial.operations.slots.now in
    let behind = operations l.operations.frame l.operations.slots.now in
    record { left : Fitting l.initial.out l.initial.p (op_words before) l.out l.p (op_words behind); few : length behind ≤ length before }

abbrev pub decreases-loop-register : goal.decreases-loop-register
decreases-loop-register l = length (operations l.operations.frame l.operations.slots.now)
