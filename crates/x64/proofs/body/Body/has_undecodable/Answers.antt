-- `Body::has_undecodable`: one info more has none, or it decides.
use Rattle.std.proofs.Common.{◌≡◌, sym, ◌∙◌, ◌+◌, ◌-◌, min, arith}
use Rattle.text.specs.Tests.{or_no, or_yes}
use Rattle.std.specs.List.{list_any}
use Rattle.x64.specs.X64.{undecodable_infos}
use Rattle.x64.specs.Index.{info_from, undecodable_in, info_whole, behind_info, undecodable_more, undecodable_on}
use Rattle.x64.proofs.Infos.{is_there}
use Rattle.x64.proofs.body.Body.has_undecodable.Goals as goal

pub loop-init : goal.loop-init
unfolding info_from
loop-init c =
    let ws = c.args.self.words.now in
    let m = c.min-end.result in
    let e : m - 0 ≡ m = omega arith in
    record { place = c.from_info-rest.ensures; same = rw (e, c.from_info-rest.ensures, c.min-end.ensures, c.info_count-infos.ensures) (undecodable_on ws (min c.args.limit _) 4 0) }

pub unwrap-requires : goal.unwrap-requires
unwrap-requires c =
    is_there c.split.result (λ none.
    let short = rw none at c.split.ensures in
    omega (arith, rw c.loop.invariant.place at short, info_whole c.args.self.words.now c.loop.counter c.args.self.fits (omega (arith, c.min-end.ensures, c.info_count-infos.ensures))))

pub returns-then-has_undecodable : goal.returns-then-has_undecodable
returns-then-has_undecodable c =
    let found = rw c.unwrap.ensures at c.split.ensures in
    or_yes (list_any undecodable_in c.unwrap.result.0.ops.now) _ (sym c.has_undecodable.ensures ∙ c.if-has_undecodable.true)
    ∙ sym (undecodable_more c.loop.rest.now (c.min-end.result - c.loop.counter) (omega arith) found.1) ∙ c.loop.invariant.same

pub loop-preserved : goal.loop-preserved
loop-preserved c =
    let found = rw c.unwrap.ensures at c.split.ensures in
    let n = c.min-end.result - c.loop.counter in
    let e : c.min-end.result - (c.loop.counter + 1) ≡ n - 1 = omega arith in
    record {
      place = rw c.loop.invariant.place at found.2 ∙ behind_info c.args.self.words.now c.loop.counter;
      same =
          rw (e, found.2)
          (or_no (list_any undecodable_in c.unwrap.result.0.ops.now) _ (sym c.has_undecodable.ensures ∙ c.if-has_undecodable.false)
          ∙ sym (undecodable_more c.loop.rest.now n (omega arith) found.1) ∙ c.loop.invariant.same);
    }

pub returns : goal.returns
unfolding undecodable_infos
returns c = let e : c.min-end.result - c.loop.counter ≡ 0 = omega arith in rw e at c.loop.invariant.same
