-- `any_below`: some row that the iterator gives.
use Rattle.std.proofs.Common.{rules, tests, ◌∙◌, eqb, ltb, not, ◌&&◌, ap, refl}
use Rattle.std.proofs.lemmas.Iterator.Consumers.{YieldsList-from_first}
use Rattle.std.proofs.lemmas.Iterator.Search.{any_from_yields_List}
use Rattle.dwarf.specs.Dwarf.{any_below}
use Rattle.dwarf.specs.Slices.{row_is, rows_left}
use Rattle.dwarf.proofs.Chains.{below_is}
use Rattle.dwarf.proofs.body.Body.any_below.Goals as goal

pub returns : goal.returns
returns c =
    let a = c.args in
    any_from_yields_List (λ w. not (eqb w.start a.first) && ltb w.start a.load) c.any.new.self _ _ c.any.ensures.ran
    (YieldsList-from_first row_is rows_left _ refl) (λ x b q k. search (rules, tests))
    ∙ below_is a.first a.load (rows_left a.self.rows) ∙ ap (any_below a.first a.load) a.self.rows_are
