-- `Body::from_info`: each info up to the last is there whole, and the next one is behind it.
use Rattle.std.proofs.Common.{◌≡◌, ◌∙◌, arith}
use Rattle.std.proofs.lemmas.List.{take_all, length-drop}
use Rattle.x64.specs.Index.{info_from, layout_long, info_whole, behind_info}
use Rattle.x64.proofs.Infos.{is_there}
use Rattle.x64.proofs.body.Body.from_info.Goals as goal

pub slice_bounds-rest-count : goal.slice_bounds-rest-count
slice_bounds-rest-count c = layout_long c.args.self.words.now c.args.self.fits

pub slice_bounds-rest-start : goal.slice_bounds-rest-start
slice_bounds-rest-start c = layout_long c.args.self.words.now c.args.self.fits

pub loop-init : goal.loop-init
unfolding info_from
loop-init c = take_all _ _ (omega (arith, length-drop 4 c.args.self.words.now))

pub unwrap-requires : goal.unwrap-requires
unwrap-requires c =
    is_there c.split.result (λ none.
    let short = rw none at c.split.ensures in
    omega (arith, rw c.loop.invariant at short, info_whole c.args.self.words.now c.loop.counter c.args.self.fits (omega arith)))

pub loop-preserved : goal.loop-preserved
loop-preserved c =
    let s = rw c.unwrap.ensures at c.split.ensures in
    rw c.loop.invariant at s.2 ∙ behind_info c.args.self.words.now c.loop.counter

pub returns : goal.returns
returns c = let e : c.loop.counter ≡ c.args.k = omega arith in rw e at c.loop.invariant
