-- `named_once`: the rules left name none twice where all do.
use Rattle.std.proofs.Common.{◌≡◌, length}
use Rattle.dwarf.specs.Dwarf.{registers, once}
use Rattle.dwarf.specs.Slices.{rules_in}
use Rattle.dwarf.proofs.judge.named_once.Given as goal

abbrev pub invariant-loop-register : goal.invariant-loop-register
invariant-loop-register l = once (registers (rules_in l.rules)) ≡ once (registers (rules_in l.fn.rules))

abbrev pub decreases-loop-register : goal.decreases-loop-register
decreases-loop-register l = length l.rules
