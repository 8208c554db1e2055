-- `next`: the first row, and those behind it.
use Rattle.std.proofs.Common.{◌≡◌, ◌∷◌, ◌-◌, drop, length, ap, arith, refl}
use Rattle.text.specs.Tests.{and_r}
use Rattle.dwarf.specs.Dwarf.{next_row, rows_from}
use Rattle.dwarf.specs.Slices.{IsRow, row_is, row_fits_in}
use Rattle.dwarf.proofs.Slices.{fit_cut, fit_more, rows_more, is_there}
use Rattle.dwarf.proofs.body.RowsIterator.next.Goals.{After-unwrap}
use Rattle.dwarf.proofs.body.RowsIterator.next.Goals as goal

pub returns-then-self-eq0-clause-steps : goal.returns-then-self-eq0-clause-steps
unfolding rows_from
returns-then-self-eq0-clause-steps c = rw c.if-self-eq0.true (refl, refl)

pub unwrap-requires : goal.unwrap-requires
unwrap-requires c =
    let s = c.args.self.now in
    is_there c.split.result (λ none.
    let short = rw none at c.split.ensures in
    rw (fit_cut s.words.now s.left (omega arith) short) at s.fit)

module _ (c : After-unwrap) where
  row : IsRow c.args.self.now.words.now c.unwrap.result.0.head.now c.unwrap.result.0.rules.now
  row = (rw c.unwrap.ensures at c.split.ensures).1

  behind : c.unwrap.result.1.now ≡ drop (next_row c.args.self.now.words.now 0) c.args.self.now.words.now
  behind = (rw c.unwrap.ensures at c.split.ensures).2

  steps : rows_from c.args.self.now.words.now c.args.self.now.left 0 ≡ row_is c.unwrap.result.0 ∷ rows_from c.unwrap.result.1.now (c.args.self.now.left - 1) 0
  steps = rw behind (rows_more c.args.self.now.words.now c.args.self.now.left (omega arith) row)

pub invariant_of-self : goal.invariant_of-self
invariant_of-self c =
    let s = c.args.self.now in
    let w = (goal.at.invariant_of-self c).After-unwrap in
    let f = rw (fit_more s.words.now s.left (omega arith) (row w) (rw c.unwrap.ensures at c.split.ensures).0) at s.fit in
    record { fit = rw (behind w) (and_r (row_fits_in c.unwrap.result.0.head.now c.unwrap.result.0.rules.now) _ f) }

pub returns-clause-steps : goal.returns-clause-steps
returns-clause-steps c = steps (goal.at.returns-clause-steps c).After-unwrap

pub returns-clause-goes : goal.returns-clause-goes
returns-clause-goes c =
    record { on = λ _. (tt, tt, omega (arith, ap length (steps (goal.at.returns-clause-goes c).After-unwrap))); keeps = tt; rests = λ _. tt }
