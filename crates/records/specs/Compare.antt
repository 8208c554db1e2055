-- What the comparison of two books answers, for every input; it carries demand 3.
use Rattle.std.specs.Prelude.{◌↔◌, ◌≡◌, List, cond, ℕ, eqb}
use Rattle.text.specs.Tests.{eqw}
use Rattle.lines.specs.Lines.{Line}
use Rattle.translate.specs.Outcome.{Outcome}
use Rattle.translate.specs.Sense.{text_of}
use Rattle.records.specs.declared.Compared.{Compared}
use Rattle.records.specs.declared.Compared.TheVariants.{Same, Different, OtherKind, Refused}
pub mod Laws

-- refused where a call is; then by the kinds; then by the texts
unfoldable pub compared_of : ℕ → ℕ → ℕ → ℕ → List ℕ → List ℕ → Compared
compared_of n₁ n₂ k₁ k₂ x₁ x₂ =
    cond (eqb n₁ 0) (cond (eqb n₂ 0) (cond (eqb k₁ k₂) (cond (eqw x₁ x₂) Same Different) OtherKind) Refused) Refused

-- the answer and the four buffers are the definitions'; and the answer is `Same` just where the two senses are one
pub record Compares (o₁ o₂ : Outcome) (k₁ k₂ : ℕ) (s₁ s₂ : List Line) (w₁ t₁ w₂ t₂ : List ℕ) (r : Compared) : Type 0 where
  pub answer : r ≡ compared_of o₁.number o₂.number k₁ k₂ (text_of o₁) (text_of o₂)
  pub work₁ : w₁ ≡ o₁.work
  pub text₁ : t₁ ≡ o₁.text
  pub work₂ : w₂ ≡ o₂.work
  pub text₂ : t₂ ≡ o₂.text
  pub texts : o₁.number ≡ 0 → o₂.number ≡ 0 → k₁ ≡ k₂ → (r ≡ Same) ↔ (text_of o₁ ≡ text_of o₂)
  pub senses : o₁.number ≡ 0 → o₂.number ≡ 0 → k₁ ≡ k₂ → (r ≡ Same) ↔ (s₁ ≡ s₂)
