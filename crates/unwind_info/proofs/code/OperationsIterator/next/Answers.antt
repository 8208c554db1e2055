-- `next`: the first operation of the slots, and those behind it.
use Rattle.std.proofs.Common.{arith, rules, sym, ◌∙◌, ◌<◌, ◌-◌, ◌*◌, length, take, drop}
use Rattle.std.proofs.lemmas.List.{take_rest}
use Rattle.unwind_info.specs.Index.{operations, operations_first}
use Rattle.unwind_info.proofs.code.OperationsIterator.next.Goals as goal

pub returns-in-Some-clause-steps : goal.returns-in-Some-clause-steps
returns-in-Some-clause-steps c =
    let s = c.args.self.now in
    rw (take_rest s.slots.now (2 * c.in-Some.code.slots)) (operations_first s.frame s.slots.now (search rules) (sym c.code_at.ensures ∙ c.in-Some.is))

pub returns-in-Some-clause-goes : goal.returns-in-Some-clause-goes
returns-in-Some-clause-goes c =
    let s = c.args.self.now in
    let e = operations_first s.frame s.slots.now (search rules) (sym c.code_at.ensures ∙ c.in-Some.is) in
    let k = 2 * c.in-Some.code.slots in
    let n : length (operations s.frame (take (length s.slots.now - k) (drop k s.slots.now))) < length (operations s.frame s.slots.now) =
    rw (take_rest s.slots.now k, e) (omega arith) in
    search (rules, n)
