-- `put_defaults`: by the two tests; the names compute.
use Rattle.std.proofs.Common.{arith, append-nil}
use Rattle.text.specs.Text.Laws.{put_none, ◌⨾◌}
use Rattle.digits.specs.Digits.{Digits·open}
use Rattle.names.specs.Names.{arm64_name, letter_of}
use Rattle.lines.specs.Lines.{form_text, rule_text}
use Rattle.rules.specs.Rules.{reg_name}
use Rattle.arm64.specs.Arm64.{defaults_text}
use Rattle.arm64.proofs.write.put_defaults.Goals as goal
use Rattle.arm64.proofs.write.put_defaults.Goals.{then-not-e, else-not-e}

pub returns-then-not-writes_ra : goal.returns-then-not-writes_ra
unfolding Digits·open arm64_name letter_of form_text rule_text reg_name defaults_text
returns-then-not-writes_ra c =
    let ra = rw c.ra_name.ensures at c.put_default-p-then-not-writes_ra.ensures in
    elim c.if-not-e.branch [
      | then-not-e w ↦
          let cfa = rw w.cfa_name.ensures at w.put_default-p.ensures in
          rw (← c.if-not-writes_ra.ensures, w.if-not-e.true) (cfa ⨾ (rw (w.out-is, w.p-is) at ra))
      | else-not-e w ↦ rw (← c.if-not-writes_ra.ensures, w.if-not-e.false) (rw (w.out-is, w.p-is) at ra)
    ]

pub returns-else-not-writes_ra : goal.returns-else-not-writes_ra
unfolding Digits·open arm64_name letter_of form_text rule_text reg_name defaults_text
returns-else-not-writes_ra c =
    elim c.if-not-e.branch [
      | then-not-e w ↦
          let cfa = rw w.cfa_name.ensures at w.put_default-p.ensures in
          rw (← c.if-not-writes_ra.ensures, w.if-not-e.true, append-nil, w.out-is, w.p-is) cfa
      | else-not-e w ↦ rw (← c.if-not-writes_ra.ensures, w.if-not-e.false, w.out-is, w.p-is) (put_none (omega arith) (omega arith))
    ]
