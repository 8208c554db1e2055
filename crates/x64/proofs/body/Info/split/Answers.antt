-- `Info::split`: the words in front, the operations' words in threes, and what is behind them.
use Rattle.std.proofs.Common.{◌≡◌, refl, ◌≤◌, ◌<◌, ℕ, ◌+◌, ◌*◌, ap, ◌∙◌, length, drop, arith}
use Rattle.std.proofs.lemmas.List.{take_all, length-drop, drop-drop, get_or-take}
use Rattle.std.specs.Simd.{first_chunks}
use Rattle.entry.specs.Entry.{word}
use Rattle.x64.specs.Index.{first_chunks_cut, info_length}
use Rattle.x64.proofs.body.Info.split.Goals as goal

pub returns : goal.returns
returns c =
    let ws = c.args.words.now in
    let head = c.in_ok-head.head.now in
    let rest = c.in_ok-head.behind.now in
    let cut = c.in_ok-head.ensures.cases in
    let k = word head 2 in
    let is : (i : ℕ) → i < 3 → word head i ≡ word ws i = λ i h. rw cut.0 (get_or-take 3 ws i 0 h) in
    let n : k ≡ word ws 2 = is 2 (omega arith) in
    let fits : 3 * k ≤ length rest = omega arith in
    let end : 3 + 3 * k ≡ info_length ws = omega (arith, n) in
    let behind : drop (3 * k) rest ≡ drop (info_length ws) ws = rw cut.1 (drop-drop (3 * k) 3 ws ∙ ap (λ i. drop i ws) end) in (
      omega (arith, n, cut.2),
      record {
        base_is = rw (is 0 (omega arith), is 1 (omega arith)) refl;
        ops_are = c.as_chunks.ensures.front ∙ first_chunks_cut k rest fits ∙ ap (λ i. first_chunks 3 i rest) n ∙ ap (first_chunks 3 (word ws 2)) cut.1;
      },
      take_all _ _ (omega (arith, length-drop (3 * k) rest)) ∙ behind,
    )
