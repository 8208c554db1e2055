-- That the comparison keeps its contract, from the answer and the two calls.
use Rattle.std.specs.Prelude.{◌↔◌, ◌≡◌, refl, List, Bool, true, false, cond, ℕ, Result, Ok, Err, is_err, take}
use Rattle.std.proofs.Common.{sym, ◌∙◌, arith, eq-eqb}
use Rattle.std.proofs.lemmas.Bool.{false≢true}
use Rattle.text.specs.Tests.{eqw, eqw→eq, eqw_refl, is_true}
use Rattle.refusal.specs.declared.Refusal.{Refusal}
use Rattle.refusal.specs.Refusal.{answer_number}
use Rattle.refusal.specs.Refusal.Laws.{numbered}
use Rattle.book.specs.Book.{kind}
use Rattle.translate.specs.declared.Returned.{Returned}
use Rattle.translate.specs.Outcome.{outcome, Called}
use Rattle.translate.specs.Sense.{sense, text_of}
use Rattle.translate.proofs.Sense.{same_text_same_sense}
use Rattle.records.specs.declared.Compared.{Compared}
use Rattle.records.specs.declared.Compared.TheVariants.{Same, Different}
use Rattle.records.specs.Compare.{compared_of, Compares}

-- an answer that is true just where two texts are equal is the test's
pub eq_answer : (r : Bool) (xs ys : List ℕ) → (r ≡ true → xs ≡ ys) → (xs ≡ ys → r ≡ true) → r ≡ eqw xs ys
eq_answer true xs ys f g = let e : xs ≡ ys = f refl in rw e (sym (is_true (eqw ys ys) (eqw_refl ys)))
eq_answer false xs ys f g = go (eqw xs ys) (λ h. absurd (false≢true (g (eqw→eq xs ys (rw h tt)))))
  where
    go : (t : Bool) → (t ≡ true → ⊥) → false ≡ t
    go true h = absurd (h refl)
    go false h = refl

pub same_texts : (k₁ k₂ : ℕ) (x₁ x₂ : List ℕ) → k₁ ≡ k₂ → (compared_of 0 0 k₁ k₂ x₁ x₂ ≡ Same) ↔ (x₁ ≡ x₂)
unfolding compared_of
same_texts k₁ k₂ x₁ x₂ e = rw (eq-eqb k₁ k₂ e) ((λ q. eqw→eq x₁ x₂ (rw (taken (eqw x₁ x₂) q) tt)), λ q. rw (q, is_true (eqw x₂ x₂) (eqw_refl x₂)) refl)
  where
    taken : (t : Bool) → cond t Same Different ≡ Same → t ≡ true
    taken true q = refl
    taken false q = let z : ◌≡◌ {A = ℕ} 0 1 = cc in absurd (omega arith)

-- a call's number is 0 just where it was not refused
pub refused_number : {A : Type 0} (r : Result A Refusal) → is_err r ≡ true → answer_number r ≡ 0 → ⊥
refused_number (Ok a) e z = false≢true e
refused_number (Err r) e z = numbered r z

pub done_number : {A : Type 0} (r : Result A Refusal) → is_err r ≡ false → answer_number r ≡ 0
done_number (Ok a) e = refl
done_number (Err r) e = absurd (false≢true (sym e))

-- all of it from the answer and the two calls
pub compares : (b₁ : List ℕ) (l₁ : ℕ) (w₁ t₁ b₂ : List ℕ) (l₂ : ℕ) (w₂ t₂ : List ℕ) {w₁' t₁' w₂' t₂' : List ℕ} {r₁ r₂ : Returned} {r : Compared}
    → Called (outcome b₁ l₁ w₁ t₁) w₁' t₁' r₁ → Called (outcome b₂ l₂ w₂ t₂) w₂' t₂' r₂
    → r ≡ compared_of (answer_number r₁.answer) (answer_number r₂.answer) (kind b₁) (kind b₂) (take r₁.length t₁') (take r₂.length t₂')
    → Compares (outcome b₁ l₁ w₁ t₁) (outcome b₂ l₂ w₂ t₂) (kind b₁) (kind b₂) (sense b₁ l₁) (sense b₂ l₂) w₁' t₁' w₂' t₂' r
compares b₁ l₁ w₁ t₁ b₂ l₂ w₂ t₂ {r = r} p q e =
    let o₁ = outcome b₁ l₁ w₁ t₁ in
    let o₂ = outcome b₂ l₂ w₂ t₂ in
    let a : r ≡ compared_of o₁.number o₂.number (kind b₁) (kind b₂) (text_of o₁) (text_of o₂)
    = e ∙ rw (p.number_is, q.number_is, p.length_is, q.length_is, p.text_is, q.text_is) refl in
    let f : o₁.number ≡ 0 → o₂.number ≡ 0 → kind b₁ ≡ kind b₂ → (r ≡ Same) ↔ (text_of o₁ ≡ text_of o₂)
    = λ h₁ h₂ k. rw (a, h₁, h₂) (same_texts (kind b₁) (kind b₂) (text_of o₁) (text_of o₂) k) in
    record {
      answer = a;
      work₁ = p.work_is;
      text₁ = p.text_is;
      work₂ = q.work_is;
      text₂ = q.text_is;
      texts = f;
      senses = λ h₁ h₂ k.
          let g = same_text_same_sense b₁ l₁ w₁ t₁ b₂ l₂ w₂ t₂ k h₁ h₂ in
          (λ x. g.0 ((f h₁ h₂ k).0 x), λ x. (f h₁ h₂ k).1 (g.1 x));
    }
