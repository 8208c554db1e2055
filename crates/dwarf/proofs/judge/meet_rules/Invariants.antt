-- `meet_rules`: the loop of `MeetLeft`.
use Rattle.std.proofs.Common.{drop}
use Rattle.dwarf.specs.Dwarf.{registers}
use Rattle.dwarf.specs.Slices.{rules_in}
use Rattle.dwarf.proofs.Meeting.{MeetLeft}
use Rattle.dwarf.proofs.judge.meet_rules.Given as goal

abbrev pub invariant-loop-register : goal.invariant-loop-register
invariant-loop-register l = MeetLeft l.fn.met (registers (rules_in l.rules)) l.met (registers (rules_in (drop l.register-index l.rules)))
