-- `special`: alloc_l and save_any_reg by their bytes, the rest by the first.
use Rattle.std.proofs.Common.{arith, get_or}
use Rattle.unwind_codes.specs.Index.{number_3, four, three, long_at_lem, any_at, rest_at}
use Rattle.unwind_codes.proofs.code.Code.special.Goals as goal
use Rattle.unwind_codes.proofs.code.Code.special.Goals.{Then-b}

pub bounds-bytes-1 : goal.bounds-bytes-1
bounds-bytes-1 c = omega (arith, four (get_or c.args.self.bytes.now 0 0) (omega arith), c.args.self.whole)

pub bounds-bytes-2 : goal.bounds-bytes-2
bounds-bytes-2 c = omega (arith, four (get_or c.args.self.bytes.now 0 0) (omega arith), c.args.self.whole)

pub bounds-bytes-3 : goal.bounds-bytes-3
bounds-bytes-3 c = omega (arith, four (get_or c.args.self.bytes.now 0 0) (omega arith), c.args.self.whole)

pub returns-then-b : goal.returns-then-b
returns-then-b c =
    long_at_lem c.args.self.bytes.now 0 (omega arith) (omega (arith, number_3 c.args.self.bytes.now 1))
    (let t = (goal.at.returns-then-b c).Then-b.type_inv in omega (arith, t.bytes 1, t.bytes 2, t.bytes 3))

pub bounds-bytes-1-then-b-2 : goal.bounds-bytes-1-then-b-2
bounds-bytes-1-then-b-2 c = omega (arith, three (get_or c.args.self.bytes.now 0 0) (omega arith), c.args.self.whole)

pub bounds-bytes-2-then-b-2 : goal.bounds-bytes-2-then-b-2
bounds-bytes-2-then-b-2 c = omega (arith, three (get_or c.args.self.bytes.now 0 0) (omega arith), c.args.self.whole)

pub returns-then-b-2 : goal.returns-then-b-2
returns-then-b-2 c = rw c.any_reg.ensures (any_at c.args.self.bytes.now 0 (omega arith) (omega arith) (omega arith))

pub returns : goal.returns
returns c = rest_at c.args.self.bytes.now 0 c.no_number.ensures
