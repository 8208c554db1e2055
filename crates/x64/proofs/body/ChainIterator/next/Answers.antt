-- `Chain::next`: what the info that runs has left, or the next info; at the end nothing.
use Rattle.std.proofs.Common.{◌≡◌, sym, ◌∙◌, ◌+◌, ◌-◌, [], arith, rules, length}
use Rattle.x64.specs.X64.{in_order, infos}
use Rattle.x64.specs.Index.{run_info, run_out}
use Rattle.x64.proofs.body.ChainIterator.next.Goals as goal
use Rattle.x64.proofs.body.ChainIterator.next.Goals.{then-loop-self-test+else-self-gt0, else-loop-self-test}

pub loop-self-preserved : goal.loop-self-preserved
loop-self-preserved c =
    let s = c.loop-self.self in
    let i = c.info-self.result in
    let z : length s.info.ops.now ≡ 0 = search rules in
    let e : s.left - 1 + 1 ≡ s.left = omega arith in
    run_info s.body.words.now (s.left - 1) i.base c.info-self.ensures
    ∙ (rw e (sym (run_out s.body.words.now s.left s.info.base s.info.ops.now z))) ∙ c.loop-self.invariant

pub returns-in_err-words-clause-steps : goal.returns-in_err-words-clause-steps
unfolding in_order infos
returns-in_err-words-clause-steps c =
    let s = c.loop-self.self in
    let z : length s.info.ops.now ≡ 0 = search rules in
    let l : s.left ≡ 0 = elim c.loop-self-test.branch [ then-loop-self-test+else-self-gt0 w ↦ omega arith | else-loop-self-test w ↦ search rules ] in
    let none : in_order (infos s.body.words.now s.left 4) ≡ [] = rw l in
    let e = run_out s.body.words.now s.left s.info.base s.info.ops.now z ∙ none in
    rw c.from_residual.ensures (sym c.loop-self.invariant ∙ e, e)
