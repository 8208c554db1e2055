-- `put_digits_fitting`: one digit, or the digits in front and one more.
use Rattle.std.proofs.Common.{rules}
use Rattle.digits.specs.Digits.Laws.{put_digit, put_digits}
use Rattle.digits.proofs.+put_digits_fitting.Goals as goal

pub returns-then-x : goal.returns-then-x
returns-then-x g t c = search (rules, put_digit)

pub returns : goal.returns
returns g t c = search (rules, put_digits)
