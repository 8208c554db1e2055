-- `operation`: by the first byte.
use Rattle.std.proofs.Common.{arith, ap, ℕ, get_or, ◌∙◌}
use Rattle.unwind_codes.specs.UnwindCodes.{code_of, meant}
use Rattle.unwind_codes.specs.Index.{two, one_at, two_at}
use Rattle.unwind_codes.proofs.code.Code.operation.Goals as goal

pub returns-then-b-lt-ALLOC_M : goal.returns-then-b-lt-ALLOC_M
returns-then-b-lt-ALLOC_M c = c.one_byte.ensures ∙ one_at c.args.self.bytes.now 0 (omega arith)

pub bounds-self-1 : goal.bounds-self-1
bounds-self-1 c = omega (arith, two (get_or c.args.self.bytes.now 0 0) (omega arith) (omega arith), c.args.self.whole)

pub returns-then-b-lt-ALLOC_L : goal.returns-then-b-lt-ALLOC_L
returns-then-b-lt-ALLOC_L c =
    let bs = c.args.self.bytes.now in
    c.two_bytes.ensures ∙ ap (λ (n : ℕ). meant (code_of (get_or bs 0 0)) n) (omega (arith, c.from.ensures, c.from-then-b-lt-ALLOC_L.ensures))
    ∙ two_at bs 0 (omega arith) (omega arith)
