-- A book (document 01, "The book"; the document's own word for a run of words that holds unwind data of one kind): word 0 the kind, word 1 the
-- count n, then n contents pairs (a body's first word, a body's length), then the bodies in order without gaps.
-- Only `start_of`, `size_of` and `first_body` know the layout of the contents.
use Rattle.std.specs.Prelude.{List, [], ◌∷◌, Bool, ◌&&◌, ℕ, zero, suc, ◌+◌, ◌*◌, ◌-◌, length, get_or, take, drop, eqb, leb}
pub mod Laws

-- word 0: the kind
unfoldable pub kind : List ℕ → ℕ
kind b = get_or b 0 0

-- word 1: the count
unfoldable pub count : List ℕ → ℕ
count b = get_or b 1 0

-- contents pair i: where its body starts, and how long it is
unfoldable pub start_of : List ℕ → ℕ → ℕ
start_of b i = get_or b (2 + 2 * i) 0

-- pair i's second word: the body's length
unfoldable pub size_of : List ℕ → ℕ → ℕ
size_of b i = get_or b (3 + 2 * i) 0

-- where the first of n bodies starts
abbrev pub first_body : ℕ → ℕ
first_body n = 2 + 2 * n

-- the kinds: 1 x64, 2 ARM64, 3 DWARF, 4 PDB
abbrev pub KINDS : ℕ
KINDS = 4

-- 2 to 16,384 words, kind 1 to 4, at most 1,024 bodies, all contents pairs there
unfoldable pub header_ok : List ℕ → Bool
header_ok b = leb 2 (length b) && leb (length b) 16384 && leb 1 (kind b) && leb (kind b) KINDS && leb (count b) 1024 && leb (first_body (count b)) (length b)

-- k bodies from pair i on follow each other from word s to the end
unfoldable pub bodies_ok : List ℕ → ℕ → ℕ → ℕ → Bool
bodies_ok b zero i s = eqb s (length b)
bodies_ok b (suc k) i s = eqb (start_of b i) s && leb (size_of b i) (length b - s) && bodies_ok b k (suc i) (s + size_of b i)

-- the contents rules (refusal 3)
unfoldable pub contents_ok : List ℕ → Bool
contents_ok b = header_ok b && bodies_ok b (count b) 0 (first_body (count b))

-- the words of body i
unfoldable pub body : List ℕ → ℕ → List ℕ
body b i = take (size_of b i) (drop (start_of b i) b)

-- n bodies from pair i on
unfoldable pub bodies_from : List ℕ → ℕ → ℕ → List (List ℕ)
bodies_from b i zero = []
bodies_from b i (suc k) = body b i ∷ bodies_from b (suc i) k

-- all bodies of a book
unfoldable pub bodies : List ℕ → List (List ℕ)
bodies b = bodies_from b 0 (count b)

-- what to unfold where books are to compute
unfoldable pub Book·open : Type 0
unfolding kind count start_of size_of header_ok bodies_ok contents_ok body bodies_from bodies
Book·open = Unit {0}
