-- `put_rules`: the loop of `PutLeft`.
use Rattle.std.proofs.Common.{drop}
use Rattle.dwarf.specs.Slices.{rules_in}
use Rattle.dwarf.proofs.Loops.{PutLeft}
use Rattle.dwarf.proofs.Fde.put_rules.Given as goal

abbrev pub invariant-loop-words : goal.invariant-loop-words
invariant-loop-words l = PutLeft l.self.family l.self.ra l.fn.out l.at l.fn.cache (rules_in l.rules) l.out l.p l.cache (rules_in (drop l.words-index l.rules))
