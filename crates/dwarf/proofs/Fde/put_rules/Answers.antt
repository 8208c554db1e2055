-- `put_rules`: a turn puts the next rule, where it differs.
use Rattle.std.proofs.Common.{sym, ◌∙◌, arith}
use Rattle.dwarf.proofs.Loops.{rule_room, rules_done, put_turn, put_done}
use Rattle.dwarf.proofs.Forms.{put_taken, put_left}
use Rattle.dwarf.proofs.Slices.{next_rule, no_rule}
use Rattle.dwarf.proofs.Fde.put_rules.Goals.{then-changed, else-changed}
use Rattle.dwarf.proofs.Fde.put_rules.Goals as goal

pub remember-changed-requires : goal.remember-changed-requires
remember-changed-requires c = rw c.from-rule.ensures (rule_room c.loop-words.invariant.rules (next_rule _ _ c.loop-words-test.true) c.requires)

pub loop-words-preserved : goal.loop-words-preserved
loop-words-preserved c =
    let l = c.loop-words.invariant in
    let next = next_rule _ _ c.loop-words-test.true in
    let r = rw c.from-rule.ensures at c.remember-changed.ensures in
    elim c.if-changed.branch [
      | then-changed w ↦
          rw (w.out-is, w.p-is) (put_turn l next r.sees r.counts (put_taken _ _ _ (sym r.changes ∙ w.if-changed.true) (rw c.from-rule.ensures at w.format_rule.ensures) w.put_formatted-p.ensures))
      | else-changed w ↦
          rw (w.out-is, w.p-is) (put_turn l next r.sees r.counts (put_left _ _ (sym r.changes ∙ w.if-changed.false) (omega arith) (omega arith)))
    ]

pub returns-clause-puts : goal.returns-clause-puts
returns-clause-puts c = put_done c.loop-words.invariant (no_rule _ _ c.loop-words-test.false)

pub returns-clause-sees : goal.returns-clause-sees
returns-clause-sees c = rules_done c.loop-words.invariant.rules (no_rule _ _ c.loop-words-test.false)
