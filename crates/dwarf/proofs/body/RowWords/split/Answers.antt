-- `split`: the words in front, the rules' words in fours, and what is behind them.
use Rattle.std.proofs.Common.{◌≡◌, ◌≤◌, ◌+◌, ◌*◌, ap, ◌∙◌, length, drop, arith}
use Rattle.std.proofs.lemmas.List.{take_all, length-drop, drop-drop, get_or-take}
use Rattle.std.specs.Simd.{first_chunks}
use Rattle.entry.specs.Entry.{word}
use Rattle.dwarf.specs.Dwarf.{next_row}
use Rattle.dwarf.proofs.Slices.{rules_whole}
use Rattle.dwarf.proofs.body.RowWords.split.Goals as goal

pub returns : goal.returns
returns c =
    let ws = c.args.words.now in
    let rest = c.in_ok-head.behind.now in
    let cut = c.in_ok-head.ensures.cases in
    let k = word c.in_ok-head.head.now 8 in
    let n : k ≡ word ws 8 = rw cut.0 (get_or-take 9 ws 8 0 (omega arith)) in
    let fits : 4 * k ≤ length rest = omega arith in
    let end : 9 + 4 * k ≡ next_row ws 0 = omega (arith, n) in
    let behind : drop (4 * k) rest ≡ drop (next_row ws 0) ws = rw cut.1 (drop-drop (4 * k) 9 ws ∙ ap (λ i. drop i ws) end) in (
      omega (arith, n, cut.2),
      record { head_is = cut.0; rules_are = c.as_chunks.ensures.front ∙ rules_whole k rest fits ∙ ap (λ i. first_chunks 4 i rest) n ∙ ap (first_chunks 4 (word ws 8)) cut.1 },
      take_all _ _ (omega (arith, length-drop (4 * k) rest)) ∙ behind,
    )
