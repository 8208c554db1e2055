-- What a call comes to that fills lent room (document 02, request 1): its number, 0 if done, and what is filled.
use Rattle.std.specs.Prelude.{◌≡◌, cond, List, [], ◌++◌, ℕ, Result, MatchResult, length, drop, ltb}
use Rattle.refusal.specs.declared.Refusal.{Refusal}
use Rattle.refusal.specs.Refusal.{number as number_of}
pub mod Laws

-- a number, and the words or places that are filled
pub record Fill (A : Type 0) : Type 0 where
  pub number : ℕ
  pub placed : List A

module _ {A : Type 0} where
  -- turned away: nothing is filled
  abbrev pub refused : ℕ → Fill A
  refused n = record { number = n; placed = [] }

  -- 9 where the room has too few places, else all of it
  abbrev pub roomed : ℕ → List A → Fill A
  roomed room xs = cond (ltb room (length xs)) (refused 9) (record { number = 0; placed = xs })

  -- all of it was filled: what is filled stands in front, the rest of the room is as it was
  pub record Filled (f : Fill A) (d d' : List A) (n : ℕ) : Type 0 where
    pub number_is : f.number ≡ 0
    pub filled_is : n ≡ length f.placed
    pub room_is : d' ≡ f.placed ++ drop (length f.placed) d

  -- it was turned away, and the room is as it was
  pub record Turned (f : Fill A) (d d' : List A) (r : Refusal) : Type 0 where
    pub number_is : number_of r ≡ f.number
    pub none_is : f.placed ≡ []
    pub room_is : d' ≡ d

  -- the contract of such a call on the room d
  abbrev pub Fills : Fill A → List A → List A → Result ℕ Refusal → Type 0
  Fills f d d' r = MatchResult r (Filled f d d') (Turned f d d')
