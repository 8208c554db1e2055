-- `size_of`: by the first byte.
use Rattle.std.proofs.Common.{arith, ne_eqb, ◌≡◌, false}
use Rattle.unwind_codes.specs.UnwindCodes.{codes, bits_fit, find}
use Rattle.unwind_codes.specs.Index.{one, two, longer, others_one, size_range}
use Rattle.unwind_codes.proofs.code.size_of.Goals as goal

pub returns-then-b-lt-ALLOC_M : goal.returns-then-b-lt-ALLOC_M
returns-then-b-lt-ALLOC_M c = (one c.args.b (omega arith), omega arith, omega arith)

pub returns-then-b-lt-ALLOC_L : goal.returns-then-b-lt-ALLOC_L
returns-then-b-lt-ALLOC_L c = (two c.args.b (omega arith) (omega arith), omega arith, omega arith)

pub returns-in-224 : goal.returns-in-224
unfolding codes bits_fit find
returns-in-224 c = (size_range 224 1 4 tt c.args.b (omega arith) (omega arith), omega arith, omega arith)

pub returns-in-226 : goal.returns-in-226
unfolding codes bits_fit find
returns-in-226 c = (size_range 226 1 2 tt c.args.b (omega arith) (omega arith), omega arith, omega arith)

pub returns-in-231 : goal.returns-in-231
unfolding codes bits_fit find
returns-in-231 c = (size_range 231 1 3 tt c.args.b (omega arith) (omega arith), omega arith, omega arith)

pub returns-in-248 : goal.returns-in-248
unfolding codes bits_fit find
returns-in-248 c = (size_range 248 1 2 tt c.args.b (omega arith) (omega arith), omega arith, omega arith)

pub returns-in-249 : goal.returns-in-249
unfolding codes bits_fit find
returns-in-249 c = (size_range 249 1 3 tt c.args.b (omega arith) (omega arith), omega arith, omega arith)

pub returns-in-250 : goal.returns-in-250
unfolding codes bits_fit find
returns-in-250 c = (size_range 250 1 4 tt c.args.b (omega arith) (omega arith), omega arith, omega arith)

pub returns-in-251 : goal.returns-in-251
unfolding codes bits_fit find
returns-in-251 c = (size_range 251 1 5 tt c.args.b (omega arith) (omega arith), omega arith, omega arith)

pub returns-in_default : goal.returns-in_default
returns-in_default c =
    let b = c.args.b in
    let h : longer b ≡ false =
    rw (
      ne_eqb b 224 (omega arith),
      ne_eqb b 226 (omega arith),
      ne_eqb b 231 (omega arith),
      ne_eqb b 248 (omega arith),
      ne_eqb b 249 (omega arith),
      ne_eqb b 250 (omega arith),
      ne_eqb b 251 (omega arith),
    ) in
    (others_one b (omega arith) (omega arith) h, omega arith, omega arith)
