-- `remember_all`: a turn remembers the next rule.
use Rattle.dwarf.proofs.Loops.{rule_room, rule_turn, rules_done}
use Rattle.dwarf.proofs.Slices.{next_rule, no_rule}
use Rattle.dwarf.proofs.RuleCache.remember_all.Goals as goal

pub remember-requires : goal.remember-requires
remember-requires c = rw c.from.ensures (rule_room c.loop-words.invariant (next_rule _ _ c.loop-words-test.true) c.requires)

pub loop-words-preserved : goal.loop-words-preserved
loop-words-preserved c =
    let r = rw c.from.ensures at c.remember.ensures in
    rule_turn c.loop-words.invariant (next_rule _ _ c.loop-words-test.true) r.sees r.counts

pub returns : goal.returns
returns c = rules_done c.loop-words.invariant (no_rule _ _ c.loop-words-test.false)
