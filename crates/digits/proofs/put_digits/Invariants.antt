-- `put_digits`: where all digits fit, the loop has stored those behind the first k.
use Rattle.digits.proofs.Back.{Back}
use Rattle.digits.proofs.put_digits.Given as goal

abbrev pub invariant-loop-k : goal.invariant-loop-k
invariant-loop-k g l = Back g.row.BASE l.x l.fn.out l.at l.k l.v l.out
