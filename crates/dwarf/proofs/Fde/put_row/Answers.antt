-- `put_row`: a line where its CFA is new, or one of its rules is written.
use Rattle.std.proofs.Common.{◌≡◌, refl, sym, ◌∙◌, Bool, true, false, ◌||◌, arith}
use Rattle.text.specs.Tests.{any}
use Rattle.text.specs.Text.Laws.{put_as, put_none}
use Rattle.dwarf.specs.Cache.{cfa_of, lookup, formatted}
use Rattle.dwarf.proofs.Forms.{some_any}
use Rattle.dwarf.proofs.Rows.{row_left, row_put}
use Rattle.dwarf.proofs.Fde.put_row.Goals.{else-is_none-via-then-is_none+else-not-any_new, else-is_none-via-else-is_none}
use Rattle.dwarf.proofs.Fde.put_row.Goals as goal

first : (t u : Bool) → t ≡ true → (t || u) ≡ true
first t u e = rw e

second : (t u : Bool) → u ≡ true → (t || u) ≡ true
second true u e = refl
second false u e = e

pub returns-then-not-any_new-clause-writes : goal.returns-then-not-any_new-clause-writes
returns-then-not-any_new-clause-writes c =
    let a = c.args in
    let new = rw c.cfa-cfa.ensures at c.new_cfa-new.ensures in
    put_as (put_none (omega arith) (omega arith))
    (row_left a.self (cfa_of a.state) (lookup a.state.rules) a.row.head.now a.row.rules.now (formatted c.new_cfa-new.result) new c.requires.once
    (sym (some_any c.new_cfa-new.result _ refl) ∙ c.if-is_none.ensures) (sym c.if-not-any_new.ensures))

pub returns-clause-writes : goal.returns-clause-writes
returns-clause-writes c =
    let a = c.args in
    let new = rw c.cfa-cfa.ensures at c.new_cfa-new.ensures in
    put_as c.put_line-at.ensures.puts
    (row_put a.self (cfa_of a.state) (lookup a.state.rules) a.row.head.now a.row.rules.now (formatted c.new_cfa-new.result) new c.requires.once
    (elim c.else-is_none.branch [
      | else-is_none-via-then-is_none+else-not-any_new w ↦ second (any (formatted c.new_cfa-new.result)) _ (sym w.if-not-any_new.ensures)
      | else-is_none-via-else-is_none w ↦ first _ _ (sym (some_any c.new_cfa-new.result _ refl) ∙ w.if-is_none.ensures)
    ]))
