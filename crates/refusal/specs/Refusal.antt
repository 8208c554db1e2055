-- The numbers of refusals (document 01, "Refusal list"). 10 to 12 are those of document 02, requests 1 and 3; docs/BOOK.md has all in a table.
use Rattle.std.specs.Prelude.{ℕ, Result, Ok, Err}
use Rattle.refusal.specs.declared.Refusal.{Refusal}
use Rattle.refusal.specs.declared.Refusal.TheVariants.{Work, Limit, Contents, Layout, Chain, Reach, Frame, Long, Room, Version, Truncated, Code}
pub mod Laws

-- a refusal's number
abbrev pub number : Refusal → ℕ
number Work = 1
number Limit = 2
number Contents = 3
number Layout = 4
number Chain = 5
number Reach = 6
number Frame = 7
number Long = 8
number Room = 9
number Version = 10
number Truncated = 11
number Code = 12

module _ {A : Type 0} where
  -- an answer's: 0 where nothing is refused
  abbrev pub answer_number : Result A Refusal → ℕ
  answer_number (Ok a) = 0
  answer_number (Err r) = number r
