-- What an entry comes to, for every kind.
use Rattle.std.specs.Prelude.{◌≡◌, List, [], ℕ, Option, None, Result, Ok, Err, MatchResult, get_or}
use Rattle.text.specs.Text.{Put}
use Rattle.refusal.specs.declared.Refusal.{Refusal}
use Rattle.refusal.specs.Refusal.{number as number_of}
use Rattle.entry.specs.declared.Fate.{Fate}
use Rattle.entry.specs.declared.Fate.TheVariants.{Skip, Write}
use Rattle.entry.specs.declared.Last.{Last}
use Rattle.entry.specs.declared.Wrote.{Wrote}
pub mod Laws

-- the word at i, and 0 past the end
abbrev pub word : List ℕ → ℕ → ℕ
word ws i = get_or ws i 0

-- what a kind judges: refused, skipped or written
abbrev pub Judged : Type 0
Judged = Result Fate Refusal

-- before the first entry
abbrev pub no_last : Option Last
no_last = None

-- a refusal's number (4 to 7) or 0, its text, and what it leaves to the next
pub record Entry : Type 0 where
  pub number : ℕ
  pub text : List ℕ
  pub next : Option Last

-- by its judgement: the text and what it leaves count only where it is written; else what was left before stays
abbrev pub comes_to : Judged → List ℕ → Option Last → Option Last → Entry
comes_to (Err r) text last next = record { number = number_of r; text = []; next = last }
comes_to (Ok Skip) text last next = record { number = 0; text = []; next = last }
comes_to (Ok Write) text last next = record { number = 0; text = text; next = next }

-- the entry was put at `at` of w
pub record Done (e : Entry) (w : List ℕ) (at : ℕ) (w' : List ℕ) (r : Wrote) : Type 0 where
  pub number_is : e.number ≡ 0
  pub next_is : r.last ≡ e.next
  pub put : Put w at e.text w' r.at

-- it was refused, and w is as it was
pub record Refused (e : Entry) (w w' : List ℕ) (r : Refusal) : Type 0 where
  pub number_is : number_of r ≡ e.number
  pub same : w' ≡ w

-- the contract of every kind's function
abbrev pub Processed : Entry → List ℕ → ℕ → List ℕ → Result Wrote Refusal → Type 0
Processed e w at w' r = MatchResult r (Done e w at w') (Refused e w w')
