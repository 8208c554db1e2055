-- `put`: the first code is there, and one operation more is put.
use Rattle.std.proofs.Common.{arith, ap, ◌≡◌, ◌∙◌, ◌+◌, ◌-◌}
use Rattle.unwind_codes.specs.UnwindCodes.{operation_at}
use Rattle.unwind_codes.proofs.Loops.{put_all, some, code_within, op_room, put_turn, put_done}
use Rattle.unwind_codes.proofs.list.Codes.put.Goals as goal
use Rattle.unwind_codes.proofs.list.Codes.put.Goals.{After-operation}

-- the operation put is that of the codes left
op_is : (c : After-operation) → c.operation.result ≡ operation_at c.loop.rest.now
op_is c = c.operation.ensures ∙ ap operation_at c.first-code.ensures

pub loop-init : goal.loop-init
loop-init c =
    let z : c.args.self.count - 0 ≡ c.args.self.count = omega arith in
    rw z (put_all c.args.self.counted c.args.self.wholes c.requires (omega arith))

pub first-code-requires : goal.first-code-requires
first-code-requires c = let l = c.loop.invariant.codes in (some l (omega arith), code_within l (omega arith))

pub put_words-p-requires : goal.put_words-p-requires
put_words-p-requires c = rw c.words-words.ensures (op_room c.loop.invariant (omega arith) (op_is (goal.at.put_words-p-requires c).After-operation))

pub loop-preserved : goal.loop-preserved
loop-preserved c =
    let z : c.args.self.count - (c.loop.counter + 1) ≡ c.args.self.count - c.loop.counter - 1 = omega arith in
    let code = c.first-code.ensures in
    rw (c.rest-rest.ensures, code, z)
    (put_turn c.loop.invariant (omega arith) (op_is (goal.at.loop-preserved c).After-operation) (rw c.words-words.ensures at c.put_words-p.ensures))

pub returns : goal.returns
returns c = put_done c.loop.invariant (omega arith)
