-- A number is a kind's just where it is 1 to 4.
use Rattle.std.specs.Prelude.{◌≡◌, refl, List, ℕ, zero, suc, true, false, ◌&&◌, leb, Result, Ok, Err, is_ok}
use Rattle.std.proofs.Common.{◌∙◌, sym, arith}
use borrow.Author.Tests.{le-leb, lt-leb}
use Rattle.std.proofs.lemmas.Bool.{false≢true}
use Rattle.book.specs.Book.{KINDS, kind, contents_ok}
use Rattle.book.specs.Book.Laws.{contents_header}
use Rattle.book.specs.declared.kind.Kind.{Kind}
use Rattle.book.specs.declared.kind.Kind.TheVariants.{X64, Arm64, Dwarf, Pdb}
use Rattle.book.specs.declared.kind.UnknownKind.{UnknownKind}
use Rattle.book.specs.Kind.{kind_number, Decodes}

known : (k : Kind) → (leb 1 (kind_number k) && leb (kind_number k) KINDS) ≡ true
known X64 = refl
known Arm64 = refl
known Dwarf = refl
known Pdb = refl

unknown : (n : ℕ) → ((k : Kind) → kind_number k ≡ n → ⊥) → (leb 1 n && leb n KINDS) ≡ false
unknown zero h = refl
unknown (suc zero) h = absurd (h X64 refl)
unknown (suc (suc zero)) h = absurd (h Arm64 refl)
unknown (suc (suc (suc zero))) h = absurd (h Dwarf refl)
unknown (suc (suc (suc (suc zero)))) h = absurd (h Pdb refl)
unknown (suc (suc (suc (suc (suc n))))) h =
    let m : ℕ = suc (suc (suc (suc (suc n)))) in
    simp (le-leb 1 m (omega arith), lt-leb m KINDS (omega arith))

pub decodes : (n : ℕ) (r : Result Kind UnknownKind) → Decodes n r → is_ok r ≡ (leb 1 n && leb n KINDS)
decodes n (Ok k) d = rw d at (sym (known k))
decodes n (Err e) d = sym (unknown n d.1)

-- a book that keeps the contents rules has one of the four
pub has_kind : (b : List ℕ) → contents_ok b ≡ true → ((k : Kind) → kind_number k ≡ kind b → ⊥) → ⊥
has_kind b e h =
    let r = contents_header b e in
    let yes : (leb 1 (kind b) && leb (kind b) KINDS) ≡ true = simp (le-leb 1 (kind b) (omega (arith, r.low)), le-leb (kind b) KINDS (omega (arith, r.high))) in
    false≢true (sym (unknown (kind b) h) ∙ yes)
