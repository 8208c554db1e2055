-- `bodies`: the contents pairs are there, as many as the count says, and name the bodies.
use Rattle.std.proofs.Common.{◌≡◌, refl, sym, arith, true, ℕ, ◌-◌, ◌/◌, ◌≤◌, List, length, take, drop, length-take-le, length-take, length-drop}
use Rattle.book.specs.Book.{count, contents_ok}
use Rattle.book.specs.Book.Laws.{contents_header}
use Rattle.book.specs.Pairs.Laws.{pairs_named, pairs_inside}
use Rattle.book.proofs.bodies.Book.bodies.Goals as goal

enough : (b : List ℕ) (n k : ℕ) → contents_ok b ≡ true → n ≡ count b → k ≡ length (take (length b - 2) (drop 2 b)) / 2 → n ≤ k
enough b n k h e f = omega (arith, contents_header b h, e, f, length-drop 2 b, length-take (length b - 2) (drop 2 b))

pub slice_bounds-pairs-end : goal.slice_bounds-pairs-end
slice_bounds-pairs-end c =
    let ps = c.as_chunks.result.0.now in
    sym (length-take-le c.count_of.result ps (enough c.args.self.words.now c.count_of.result (length ps) c.args.self.kept c.count_of.ensures c.as_chunks.ensures.front_len))

pub invariant_of-result : goal.invariant_of-result
invariant_of-result c =
    let b = c.args.self.words.now in
    let n = c.count_of.result in
    record { inside = pairs_inside b n _ c.as_chunks.result.0.now c.count_of.ensures c.as_chunks.ensures.front (enough b n _ c.args.self.kept c.count_of.ensures refl) c.args.self.kept }

pub returns : goal.returns
returns c =
    let b = c.args.self.words.now in
    let n = c.count_of.result in
    pairs_named b n _ c.as_chunks.result.0.now c.count_of.ensures c.as_chunks.ensures.front (enough b n _ c.args.self.kept c.count_of.ensures refl)
