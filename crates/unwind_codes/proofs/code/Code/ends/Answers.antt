-- `ends`: by the first byte, save_any_reg by its other two.
use Rattle.std.proofs.Common.{arith, ap, sym, get_or}
use Rattle.unwind_codes.specs.UnwindCodes.{ends}
use Rattle.unwind_codes.specs.Index.{three, any_at, ends_early, ends_late, ends_at}
use Rattle.unwind_codes.proofs.code.Code.ends.Goals as goal

pub returns-then-b-lt-END_CODE : goal.returns-then-b-lt-END_CODE
returns-then-b-lt-END_CODE c = ends_at c.args.self.bytes.now 0 (λ n. sym (ends_early (get_or c.args.self.bytes.now 0 0) n (omega arith)))

pub bounds-bytes-1 : goal.bounds-bytes-1
bounds-bytes-1 c = omega (arith, three (get_or c.args.self.bytes.now 0 0) (omega arith), c.args.self.whole)

pub bounds-bytes-2 : goal.bounds-bytes-2
bounds-bytes-2 c = omega (arith, three (get_or c.args.self.bytes.now 0 0) (omega arith), c.args.self.whole)

pub returns-then-b : goal.returns-then-b
returns-then-b c = rw c.any_reg_ends.ensures (ap ends (any_at c.args.self.bytes.now 0 (omega arith) (omega arith) (omega arith)))

pub returns : goal.returns
returns c =
    let b = get_or c.args.self.bytes.now 0 0 in
    ends_at c.args.self.bytes.now 0 (λ n. ends_late b n (omega arith) (omega arith) (λ z. omega (arith, z)))
