-- `put_digits`: one more digit is stored in front of those behind it; at 0 none is left.
use Rattle.std.proofs.Common.{arith}
use Rattle.digits.proofs.Back.{back_all, back_more, back_put}
use Rattle.digits.proofs.put_digits.Goals as goal

pub loop-k-init : goal.loop-k-init
loop-k-init g c = let a = c.args in back_all g.row.BASE a.x a.out.now a.at a.n (omega arith) c.requires.count

pub loop-k-preserved : goal.loop-k-preserved
loop-k-preserved g c = back_more c.digit_of.result (omega arith) c.loop-k.invariant c.digit_of.ensures

pub returns-then-n-out : goal.returns-then-n-out
returns-then-n-out g c = back_put c.loop-k.invariant (omega arith) c.requires.count (omega arith) (omega arith)
