-- `put_words`: one word more is stored.
use Rattle.std.proofs.Common.{◌∷◌, [], arith, get_or, take}
use Rattle.std.proofs.lemmas.List.{take_more, length-take-le}
use Rattle.text.specs.Text.Laws.{sets_append}
use Rattle.fill.proofs.put_words.Goals as goal

pub loop-i-preserved : goal.loop-i-preserved
loop-i-preserved c =
    let d = c.args.out.now in
    let ws = c.args.words.now in
    let i = c.loop-i.i in
    let w = get_or ws i 0 in
    rw (take_more ws i 0 c.loop-i-test.true, sets_append (take i ws) (w ∷ []) d c.args.at, length-take-le i ws (omega arith))
    (rw c.loop-i.invariant)
