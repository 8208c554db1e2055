-- `put_cfa`: by the flag; T is T - 0.
use Rattle.std.proofs.Common.{ap, ◌∙◌, rules}
use lib.IntN.{ℤ}
use mir.Syntax.{w64}
use mir.Val.{SFits}
use mir.Facts.{to_z-of_z}
use Rattle.text.specs.Text.{ascii}
use Rattle.text.specs.Text.Laws.{put_as}
use Rattle.lines.specs.Lines.{rule, cfa, register_plus, form_text, rule_text}
use Rattle.lines.specs.Lines.Laws.{sub_none}
use Rattle.rules.specs.Rules.{rule_of, reg_name, form_of}
use Rattle.arm64.specs.Arm64.{cfa_text}
use Rattle.arm64.proofs.write.put_cfa.Goals as goal

pub returns-then-e : goal.returns-then-e
unfolding cfa_text form_text rule_text rule_of reg_name form_of
returns-then-e c =
    let f : SFits w64 c.difference-x.result = search rules in
    rw c.if-e.true (put_as (rw c.cfa_name-name.ensures at c.put_rule.ensures)
    (ap (λ (z : ℤ). rule_text (rule cfa (register_plus (ascii ".sp") z))) (to_z-of_z f ∙ c.difference-x.ensures ∙ sub_none c.args.e.state.stack_size)))
