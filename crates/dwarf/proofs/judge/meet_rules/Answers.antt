-- `meet_rules`: no room for the next register is no room for all.
use Rattle.std.proofs.Common.{◌≡◌, ℕ, List, [], ◌∷◌, ◌+◌, ◌<◌, ◌≤◌, drop, length, get_or}
use Rattle.entry.specs.Entry.{word}
use Rattle.dwarf.specs.Dwarf.{registers, rule_at}
use Rattle.dwarf.specs.Slices.{rule_in, rules_in}
use Rattle.dwarf.proofs.Meeting.{meet_over, meet_turn, meet_done}
use Rattle.dwarf.proofs.Slices.{next_rule, no_rule}
use Rattle.dwarf.proofs.judge.meet_rules.Goals as goal

next : (rs : List (List ℕ)) (i : ℕ) → i < length rs → registers (rules_in (drop i rs)) ≡ word (get_or rs i []) 0 ∷ registers (rules_in (drop (i + 1) rs))
unfolding registers rule_in rule_at
next rs i h = rw (next_rule rs i h)

none : (rs : List (List ℕ)) (i : ℕ) → length rs ≤ i → registers (rules_in (drop i rs)) ≡ []
unfolding registers
none rs i h = rw (no_rule rs i h)

pub returns-then-not-meet : goal.returns-then-not-meet
returns-then-not-meet c = meet_over c.loop-register.invariant (next _ _ c.loop-register-test.true) c.if-not-meet.ensures

pub loop-register-preserved : goal.loop-register-preserved
loop-register-preserved c = meet_turn c.loop-register.invariant (next _ _ c.loop-register-test.true) c.if-not-meet.ensures

pub returns : goal.returns
returns c = meet_done c.loop-register.invariant (none _ _ c.loop-register-test.false)
