-- `words`: the first i words are there, and the rest is as it was.
use Rattle.std.proofs.Common.{◌≡◌, ◌++◌, ◌≤◌, drop}
use Rattle.input.specs.Words.{words_of}
use Rattle.input.proofs.words.Given as goal

abbrev pub invariant-loop-i : goal.invariant-loop-i
invariant-loop-i l = record { inside : l.i ≤ l.n; filled : l.out ≡ words_of l.bytes l.i ++ drop l.i l.fn.out }
