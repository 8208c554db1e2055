-- `remember_all`: the loop of `RulesLeft`.
use Rattle.std.proofs.Common.{drop}
use Rattle.dwarf.specs.Slices.{rules_in}
use Rattle.dwarf.proofs.Loops.{RulesLeft}
use Rattle.dwarf.proofs.RuleCache.remember_all.Given as goal

abbrev pub invariant-loop-words : goal.invariant-loop-words
invariant-loop-words l = RulesLeft l.fn.self (rules_in l.rules) l.self (rules_in (drop l.words-index l.rules))
