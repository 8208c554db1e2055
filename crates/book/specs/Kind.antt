-- The kinds of books (document 01, "The book").
use Rattle.std.specs.Prelude.{◌≡◌, ℕ, Result, MatchResult}
use Rattle.book.specs.declared.kind.Kind.{Kind}
use Rattle.book.specs.declared.kind.Kind.TheVariants.{X64, Arm64, Dwarf, Pdb}
use Rattle.book.specs.declared.kind.UnknownKind.{UnknownKind}
pub mod Laws

-- a kind's number
abbrev pub kind_number : Kind → ℕ
kind_number X64 = 1
kind_number Arm64 = 2
kind_number Dwarf = 3
kind_number Pdb = 4

-- the kind with this number, or an error with a number that no kind has
abbrev pub Decodes : ℕ → Result Kind UnknownKind → Type 0
Decodes n r = MatchResult r (λ k. kind_number k ≡ n) (λ e. (e.0 ≡ n) × ((k : Kind) → kind_number k ≡ n → ⊥))
