-- `put_digits_fitting`, by recursion: the number falls with each division.
use Rattle.digits.proofs.+put_digits_fitting.Given as goal

abbrev pub decreases-put_digits_fitting : goal.decreases-put_digits_fitting
decreases-put_digits_fitting g l = l.x
