-- `Part::count_ops`: the iterator gives the operations of the part.
use Rattle.std.proofs.Common.{arith, inl}
use Rattle.std.proofs.lemmas.Iterator.Consumers.{YieldsList-from_first, count_from_yields_List}
use Rattle.unwind_info.specs.declared.Operation.{Operation}
use Rattle.unwind_info.specs.declared.code.Operations.{Operations}
use Rattle.unwind_info.specs.UnwindInfo.{codes_of}
use Rattle.unwind_info.specs.Index.{operations}
use Rattle.unwind_info.proofs.part.Part.count_ops.Goals as goal

pub count-requires-clause-fits : goal.count-requires-clause-fits
count-requires-clause-fits c = inl (rw c.operations.ensures.0 (omega (arith, c.operations.ensures.1)))

pub returns : goal.returns
returns c =
    let n =
    count_from_yields_List c.operations.result c.count.result c.count.ensures.ran
    (YieldsList-from_first (λ (o : Operation). o) (λ (s : Operations). operations s.frame s.slots.now) (codes_of c.args.self.bytes.now) c.operations.ensures.0) in
    (n, omega (arith, n, c.operations.ensures.1))
