-- `put_decimal`: up to three digits one after the other.
use Rattle.std.proofs.Common.{arith, rules, ◌/◌}
use Rattle.digits.specs.Digits.{decimal}
use Rattle.digits.specs.Digits.Laws.{put_digit, put_digits}
use Rattle.digits.proofs.put_decimal.Goals as goal

pub returns-then-x-lt10 : goal.returns-then-x-lt10
unfolding decimal
returns-then-x-lt10 c = search (rules, put_digit)

pub returns-then-x-lt100 : goal.returns-then-x-lt100
unfolding decimal
returns-then-x-lt100 c =
    let x = c.args.x in
    let p1 = put_digit 10 (x / 10) c.put_byte-p.ensures c.digit_of-then-x-lt100.ensures (omega arith) in
    put_digits 10 x p1 c.put_byte-then-x-lt100.ensures c.digit_of-then-x-lt100-2.ensures (omega arith) (omega arith)

pub returns-then-x-lt1000 : goal.returns-then-x-lt1000
unfolding decimal
returns-then-x-lt1000 c =
    let x = c.args.x in
    let p1 = put_digit 10 (x / 10 / 10) c.put_byte-p-then-x-lt1000.ensures c.digit_of-then-x-lt1000.ensures (omega arith) in
    let p2 = put_digits 10 (x / 10) p1 c.put_byte-p-then-x-lt1000-2.ensures c.digit_of-then-x-lt1000-2.ensures (omega arith) (omega arith) in
    put_digits 10 x p2 c.put_byte-then-x-lt1000.ensures c.digit_of-then-x-lt1000-3.ensures (omega arith) (omega arith)
