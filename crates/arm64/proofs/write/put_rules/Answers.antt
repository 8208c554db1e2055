-- `put_rules`: the CFA, then what is saved.
use Rattle.text.specs.Text.Laws.{◌⨾◌}
use Rattle.arm64.specs.Encoder.{step_text}
use Rattle.arm64.proofs.write.put_rules.Goals as goal

pub returns : goal.returns
unfolding step_text
returns c = search ◌⨾◌
