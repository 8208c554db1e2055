-- `put_rule`: a space, the name, a colon, the form.
use Rattle.text.specs.Text.Laws.{◌⨾◌}
use Rattle.lines.specs.Lines.{rule_text}
use Rattle.rules.specs.Rules.{rule_of}
use Rattle.rules.proofs.put_rule.Goals as goal

pub returns : goal.returns
unfolding rule_text rule_of
returns c = c.put_byte-p.ensures ⨾ c.put_name-p.ensures ⨾ c.put_bytes-p.ensures ⨾ c.put_form.ensures
