-- `bodies_ok`: the first pairs are as they must be, and what is left decides (`Laws`).
use Rattle.std.proofs.Common.{◌≡◌, ◌-◌, ◌≤◌, length}
use Rattle.book.specs.Book.{first_body, bodies_ok}
use Rattle.book.proofs.bodies_ok.Given as goal

abbrev pub invariant-loop-start : goal.invariant-loop-start
invariant-loop-start l = record {
  few : l.start-index ≤ l.n;
  inside : l.at ≤ length l.book;
  same : bodies_ok l.book l.n 0 (first_body l.n) ≡ bodies_ok l.book (l.n - l.start-index) l.start-index l.at;
}
