-- `put_line`: by whether it is line 0.
use Rattle.std.proofs.Common.{◌≡◌, refl, ap, ◌∙◌, ℕ, zero, suc, ◌+◌, ◌*◌, List}
use Rattle.text.specs.Text.Laws.{put_as}
use Rattle.arm64.specs.Arm64.{writes_ra, defaults_text, later_line, nth_line}
use Rattle.arm64.specs.Encoder.{step_text}
use Rattle.arm64.proofs.write.put_line.Goals as goal

later : (a z i : ℕ) (rules defaults : List ℕ) → (i ≡ 0 → ⊥) → later_line (a + 4 * i) rules ≡ nth_line a z i rules defaults
unfolding nth_line
later a z zero rules defaults h = absurd (h refl)
later a z (suc i) rules defaults h = refl

pub returns-then-i-eq0 : goal.returns-then-i-eq0
unfolding nth_line
returns-then-i-eq0 c = let e : c.args.i ≡ 0 = c.if-i-eq0.true in rw e c.put_first_line.ensures

pub returns : goal.returns
returns c =
    let a = c.args in
    let b = a.body.now in
    put_as c.put_later_line.ensures (ap (λ (n : ℕ). later_line n (step_text a.e.state)) c.line.ensures
    ∙ later b.address b.size a.i (step_text a.e.state) (defaults_text a.e.state.cfa_touched (writes_ra a.e.state.saves)) c.if-i-eq0.false)
