-- What every writer's contract says: which bytes now stand in the lent slice, and where the next ones go.
use Rattle.std.specs.Prelude.{◌≡◌, List, [], ◌∷◌, ◌++◌, ℕ, ◌+◌, ◌-◌, ◌^◌, ◌≤◌, min, length}
use Prim.Native.Char.{code}
use Prim.Native.String.{String, [] as nil, ◌∷◌ as ◌▹◌}
use Rattle.std.proofs.lemmas.List.Edits.{sets}
pub mod Laws

-- the bytes of an ASCII text
abbrev pub ascii : String → List ℕ
ascii nil = []
ascii (c ▹ s) = code c ∷ ascii s

-- the largest usize
abbrev pub MAX : ℕ
MAX = 2 ^ 64 - 1

-- `bs` was put at `at` of `d`: the bytes that fit are stored (`sets` drops the others), and `r` is the place after them, which stops at the
-- largest usize. So one function writes, and measures where it is given no room.
pub record Put (d : List ℕ) (at : ℕ) (bs : List ℕ) (d' : List ℕ) (r : ℕ) : Type 0 where
  pub bytes : d' ≡ sets d at bs
  pub next : r ≡ min (at + length bs) MAX
  pub short : length d ≤ MAX

-- For loops: of the text `t`, to be put at `at` of `d`, the part `u` is left to put at `p` of `d₁`.
pub record Left (d : List ℕ) (at : ℕ) (t d₁ : List ℕ) (p : ℕ) (u : List ℕ) : Type 0 where
  pub done : List ℕ
  pub put : Put d at done d₁ p
  pub rest : done ++ u ≡ t
