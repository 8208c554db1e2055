-- What C gets of a call's outcome.
use Rattle.std.specs.Prelude.{◌≡◌, List, ◌++◌, cond, ℕ, length, set, drop, ltb}
use Rattle.translate.specs.Outcome.{Outcome}
use Rattle.fill.specs.Fill.{Fill}
pub mod Laws

-- the entries and the length are stored where there is room for two numbers
abbrev pub counted : List ℕ → ℕ → ℕ → List ℕ
counted c n m = cond (ltb (length c) 2) c (set (set c 0 n) 1 m)

-- the contract of the call: what is returned and what the buffers and the counts hold afterwards are the outcome's
pub record Exported (o : Outcome) (c w' t' c' : List ℕ) (number : ℕ) : Type 0 where
  pub number_is : number ≡ o.number
  pub work_is : w' ≡ o.work
  pub text_is : t' ≡ o.text
  pub counts_is : c' ≡ counted c o.entries o.length

-- the contract of a call that fills a room: what is filled stands in front, its count at the first place of the counts where there is one
-- (`set` past the end changes nothing); the rest of both is as it was
pub record FillExported {A : Type 0} (f : Fill A) (d : List A) (c : List ℕ) (d' : List A) (c' : List ℕ) (number : ℕ) : Type 0 where
  pub number_is : number ≡ f.number
  pub room_is : d' ≡ f.placed ++ drop (length f.placed) d
  pub count_is : c' ≡ set c 0 (length f.placed)
