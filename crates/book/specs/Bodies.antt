-- A book that was read, and its bodies as an iterator has them left.
use Rattle.std.specs.Prelude.{◌≡◌, List, ℕ, false, map, Result, MatchResult}
use Rattle.refusal.specs.declared.Refusal.{Refusal}
use Rattle.refusal.specs.declared.Refusal.TheVariants.{Contents}
use Rattle.book.specs.declared.bodies.Book.{Book}
use Rattle.book.specs.declared.bodies.Bodies.{Bodies}
use Rattle.book.specs.Book.{contents_ok}
use Rattle.book.specs.Pairs.{body_in}

-- the same words where they keep the rules, else refusal 3
abbrev pub Reads : List ℕ → Result Book Refusal → Type 0
Reads ws r = MatchResult r (λ b. b.words.now ≡ ws) (λ e. (e ≡ Contents) × (contents_ok ws ≡ false))

-- the bodies that an iterator has left
abbrev pub left : Bodies → List (List ℕ)
left s = map (body_in s.words.now) s.pairs.now
