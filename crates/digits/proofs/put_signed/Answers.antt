-- `put_signed`: the sign and the magnitude, or the magnitude alone.
use Rattle.std.proofs.Common.{sym, ap, ◌∙◌, ◌∷◌, ℕ, nat_abs}
use Rattle.std.proofs.Math.Facts.{to_z-of_z}
use Rattle.text.specs.Text.Laws.{◌⨾◌, put_as}
use Rattle.digits.specs.Digits.{decimal}
use Rattle.digits.specs.Digits.Laws.{signed_neg, signed_pos}
use Rattle.digits.proofs.put_signed.Goals.{then-x-lt0, else-x-lt0}
use Rattle.digits.proofs.put_signed.Goals as goal

pub returns : goal.returns
returns c =
    let z = to_z-of_z c.ranges.x in
    let m = c.unsigned_abs.ensures.value ∙ ap nat_abs z in
    elim c.if-x-lt0.branch [
      | then-x-lt0 w ↦
          put_as (w.put_byte-p.ensures ⨾ (rw (w.out-is, w.p-is) at c.put_decimal.ensures))
          (ap (λ (k : ℕ). 45 ∷ decimal k) m ∙ sym (signed_neg c.args.x (rw z at w.if-x-lt0.true)))
      | else-x-lt0 w ↦
          put_as (rw (w.out-is, w.p-is) at c.put_decimal.ensures) (ap decimal m ∙ sym (signed_pos c.args.x (rw z at w.if-x-lt0.false)))
    ]
