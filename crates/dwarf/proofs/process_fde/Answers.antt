-- `process_fde`: by the layout and the judgement.
use Rattle.std.proofs.Common.{◌≡◌, refl, sym, ap, ◌∙◌, arith, Ok}
use Rattle.std.proofs.lemmas.Result.{err_from_is_err_and}
use Rattle.refusal.specs.declared.Refusal.TheVariants.{Layout}
use Rattle.text.specs.Text.Laws.{put_as, put_none}
use Rattle.dwarf.specs.Dwarf.{dwarf_text, dwarf_entry, dwarf_judged}
use Rattle.dwarf.proofs.process_fde.Goals as goal

pub returns-in_err-body : goal.returns-in_err-body
unfolding dwarf_entry dwarf_judged
returns-in_err-body c =
    let p = err_from_is_err_and c.from_residual.result c.from_residual.ensures.1 in
    let refused : c.in_err-body.field-0.0 ≡ Layout = grind arith in
    rw (p.1, p.2, refused, rw c.in_err-body.ensures.ok_part at c.read.ensures) (record { number_is = refl; same = refl })

pub returns-in_err-judge : goal.returns-in_err-judge
unfolding dwarf_entry
returns-in_err-judge c =
    let p = err_from_is_err_and c.from_residual-in_err-judge.result c.from_residual-in_err-judge.ensures.1 in
    let e = (rw c.in_ok-body.ensures.ok_part at c.read.ensures) in
    let j = ap dwarf_judged (sym e) ∙ sym c.judge.ensures ∙ c.in_err-judge.was in
    rw (p.1, p.2, j) (record { number_is = refl; same = refl })

pub returns-in-Skip : goal.returns-in-Skip
unfolding dwarf_entry
returns-in-Skip c =
    let j = ap dwarf_judged (sym (rw c.in_ok-body.ensures.ok_part at c.read.ensures)) ∙ sym c.judge.ensures ∙ c.in_ok-judge.was ∙ ap Ok c.in-Skip.is in
    rw j (record { number_is = refl; next_is = refl; put = put_none (omega arith) (omega arith) })

pub returns-in-Write : goal.returns-in-Write
unfolding dwarf_entry
returns-in-Write c =
    let j = ap dwarf_judged (sym (rw c.in_ok-body.ensures.ok_part at c.read.ensures)) ∙ sym c.judge.ensures ∙ c.in_ok-judge.was ∙ ap Ok c.in-Write.is in
    rw j (record { number_is = refl; next_is = refl; put = put_as c.put_entry-at.ensures (ap dwarf_text (rw c.in_ok-body.ensures.ok_part at c.read.ensures)) })
