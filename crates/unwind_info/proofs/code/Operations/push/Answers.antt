-- `Operations::push`: a push by its byte.
use Rattle.std.specs.Prelude.{◌≡◌, ◌-◌, length, take, drop}
use Rattle.std.proofs.Common.{arith, length-drop, take_all}
use Rattle.unwind_info.specs.Index.{operations_push}
use Rattle.unwind_info.proofs.code.Operations.push.Goals as goal

pub returns : goal.returns
returns c =
    let bs = c.args.self.slots.now in
    let e : take (length bs - 2) (drop 2 bs) ≡ drop 2 bs = take_all (length bs - 2) (drop 2 bs) (omega (arith, length-drop 2 bs)) in
    rw (e, c.from.ensures) (operations_push c.args.self.frame bs (search) (search))
