-- The bodies of a book by their contents pairs, as the code has them.
use Rattle.std.specs.Prelude.{List, ℕ, ◌+◌, Bool, leb, length, get_or, take, drop}
pub mod Laws

-- the words of the body that a pair names
abbrev pub body_in : List ℕ → List ℕ → List ℕ
body_in ws p = take (get_or p 1 0) (drop (get_or p 0 0) ws)

-- they lie within the words
abbrev pub is_inside : List ℕ → List ℕ → Bool
is_inside ws p = leb (get_or p 0 0 + get_or p 1 0) (length ws)
