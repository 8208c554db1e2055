-- `put_saved`: the rule's number is the difference.
use Rattle.std.proofs.Common.{ap, ◌∙◌, rules}
use lib.IntN.{ℤ}
use mir.Syntax.{w64}
use mir.Val.{SFits}
use mir.Facts.{to_z-of_z}
use Rattle.text.specs.Text.Laws.{put_as}
use Rattle.names.specs.Names.{name_text}
use Rattle.lines.specs.Lines.{rule, at_cfa_plus, form_text, rule_text}
use Rattle.rules.specs.Rules.{rule_of, form_of}
use Rattle.arm64.proofs.write.put_saved.Goals as goal

pub returns : goal.returns
unfolding form_text rule_text rule_of form_of
returns c =
    let f : SFits w64 c.difference-x.result = search rules in
    put_as c.put_rule.ensures (ap (λ (z : ℤ). rule_text (rule (name_text c.args.name) (at_cfa_plus z))) (to_z-of_z f ∙ c.difference-x.ensures))
