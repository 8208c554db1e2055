-- `same_records`: what the two calls and the comparison ensure (`compares`).
use Rattle.std.proofs.Common.{◌≡◌, ℕ, take, ◌∙◌, ap₂}
use Rattle.refusal.specs.Refusal.{answer_number}
use Rattle.book.specs.Book.{kind}
use Rattle.records.specs.declared.Compared.{Compared}
use Rattle.records.specs.Compare.{compared_of}
use Rattle.records.specs.Compare.Laws.{compares}
use Rattle.records.proofs.same_records.Goals as goal

pub returns : goal.returns
returns c =
    let a = c.args in
    let p = c.translate-first in
    let q = c.translate-second in
    let of : ℕ → ℕ → Compared
    = λ (k l : ℕ). compared_of (answer_number p.result.answer) (answer_number q.result.answer) k l (take p.result.length p.new.text) (take q.result.length q.new.text) in
    let e : c.compare.result ≡ of (kind a.book_a.now) (kind a.book_b.now) = c.compare.ensures ∙ ap₂ of c.kind_of.ensures c.kind_of-2.ensures in
    compares a.book_a.now a.limit_a a.work_a.now a.text_a.now a.book_b.now a.limit_b a.work_b.now a.text_b.now p.ensures q.ensures e
