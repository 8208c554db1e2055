-- `named_once`: the rules left name none twice where all do.
use Rattle.std.proofs.Common.{◌≡◌, refl, sym, ap, ◌∙◌, true, List, [], ◌∷◌, ℕ, length, arith, not, ◌&&◌}
use Rattle.text.specs.Tests.{and_yes, and_no}
use Rattle.entry.specs.Entry.{word}
use Rattle.dwarf.specs.Dwarf.{registers, member, once, rule_at}
use Rattle.dwarf.specs.Slices.{rule_in, rules_in}
use Rattle.dwarf.proofs.Slices.{named_is}
use Rattle.dwarf.proofs.judge.named_once.Goals as goal

once_next : (rs : List (List ℕ)) (w : List ℕ) (ss : List (List ℕ)) → rs ≡ w ∷ ss
    → once (registers (rules_in rs)) ≡ (not (member (word w 0) (registers (rules_in ss))) && once (registers (rules_in ss)))
unfolding once registers rule_in rule_at
once_next rs w ss e = rw e

pub returns-then-names_register : goal.returns-then-names_register
returns-then-names_register c =
    let r = word c.in-Some.field-0-0.now 0 in
    and_no _ _ (ap not (sym (named_is r c.in-Some.behind.now) ∙ sym c.if-names_register.ensures))
    ∙ sym (once_next _ _ _ c.in-Some.ensures.cases.0) ∙ c.loop-register.invariant

pub loop-register-preserved : goal.loop-register-preserved
loop-register-preserved c =
    let r = word c.in-Some.field-0-0.now 0 in
    and_yes _ _ (ap not (sym (named_is r c.in-Some.behind.now) ∙ sym c.if-names_register.ensures))
    ∙ sym (once_next _ _ _ c.in-Some.ensures.cases.0) ∙ c.loop-register.invariant

once_none : (rs : List (List ℕ)) → length rs ≡ 0 → true ≡ once (registers (rules_in rs))
unfolding registers once
once_none [] h = refl
once_none (w ∷ rs) h = absurd (omega arith)

pub returns : goal.returns
returns c = once_none c.loop-register.rules.now (omega (arith, c.in_default.ensures.cases)) ∙ c.loop-register.invariant
