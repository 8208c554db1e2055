-- What the contents rules give: the parts of the header, bodies within the book, and the book as its header and its bodies.
use Rattle.std.specs.Prelude.{◌≡◌, refl, Bool, true, false, ◌&&◌, drop}
use Rattle.std.proofs.Math.Path.{sym, ap}
use Rattle.std.proofs.Common.{◌∙◌, take-append-drop}
use mathlib.Core.List.{List, [], ◌∷◌, ◌++◌}
use Rattle.std.proofs.lemmas.Bool.{false≢true}
use Prim.Native.Nat.{ℕ, zero, suc, ◌+◌, ◌-◌, ◌≤◌, ◌<◌}
use native.Mathlib.Omega.{arith}
use Rattle.std.proofs.Math.ListN.{length, take}
use Rattle.std.proofs.Math.Seq.{drop-drop, drop-length}
use borrow.Author.Tests.{leb-true, eqb-true}
use Rattle.book.specs.Book.{kind, count, start_of, size_of, first_body, KINDS, header_ok, bodies_ok, contents_ok, body, bodies_from, bodies}

-- ---- what the rules give

left : (a b : Bool) → a && b ≡ true → a ≡ true
left true b e = refl
left false b e = e

right : (a b : Bool) → a && b ≡ true → b ≡ true
right true b e = e
right false b e = absurd (false≢true e)

-- what the test of the header gives
pub record Header (b : List ℕ) : Type 0 where
  pub two : 2 ≤ length b
  pub most : length b ≤ 16384
  pub low : 1 ≤ kind b
  pub high : kind b ≤ KINDS
  pub few : count b ≤ 1024
  pub room : first_body (count b) ≤ length b

pub header : (b : List ℕ) → header_ok b ≡ true → Header b
unfolding header_ok
header b e = record {
  two = leb-true 2 (length b) (search (left, right));
  most = leb-true (length b) 16384 (search (left, right));
  low = leb-true 1 (kind b) (search (left, right));
  high = leb-true (kind b) KINDS (search (left, right));
  few = leb-true (count b) 1024 (search (left, right));
  room = leb-true (first_body (count b)) (length b) (search (left, right));
}

pub contents_header : (b : List ℕ) → contents_ok b ≡ true → Header b
unfolding contents_ok
contents_header b e = header b (left (header_ok b) (bodies_ok b (count b) 0 (first_body (count b))) e)

-- bodies one after the other
abbrev pub concat : List (List ℕ) → List ℕ
concat [] = []
concat (x ∷ xs) = x ++ concat xs

module _ (b : List ℕ) where
  -- the words from s on are body i, and the words behind it
  cut_off : (i s : ℕ) → start_of b i ≡ s → drop s b ≡ body b i ++ drop (s + size_of b i) b
  unfolding body
  cut_off i s q = rw (q, ← drop-drop (size_of b i) s b) (sym (take-append-drop (size_of b i) (drop s b)))

  pair : (k i s : ℕ) → bodies_ok b (suc k) i s ≡ true → (start_of b i ≡ s) × ((size_of b i ≤ length b - s) × (bodies_ok b k (suc i) (s + size_of b i) ≡ true))
  unfolding bodies_ok
  pair k i s e = (eqb-true (start_of b i) s (search (left, right)), (leb-true (size_of b i) (length b - s) (search (left, right)), search (left, right)))

  -- a body lies within the book
  within : (k i s : ℕ) → bodies_ok b k i s ≡ true → s ≤ length b → (j : ℕ) → j < k → start_of b (i + j) + size_of b (i + j) ≤ length b
  within zero i s e h j l = absurd (omega arith)
  within (suc k) i s e h zero l = let p = pair k i s e in let z : i + 0 ≡ i = omega arith in rw z (omega (arith, p))
  within (suc k) i s e h (suc j) l =
      let p = pair k i s e in
      let z : i + suc j ≡ suc i + j = omega arith in
      rw z (within k (suc i) (s + size_of b i) p.1.1 (omega (arith, p)) j (omega arith))

  pub body_within : contents_ok b ≡ true → (i : ℕ) → i < count b → start_of b i + size_of b i ≤ length b
  unfolding contents_ok
  body_within e i l =
      let z : 0 + i ≡ i = omega arith in
      rw z at (within (count b) 0 (first_body (count b)) (right (header_ok b) (bodies_ok b (count b) 0 (first_body (count b))) e) (contents_header b e).room i l)

  whole : (k i s : ℕ) → bodies_ok b k i s ≡ true → s ≤ length b → drop s b ≡ concat (bodies_from b i k)
  unfolding bodies_from bodies_ok
  whole zero i s e h = let z : s ≡ length b = eqb-true s (length b) e in rw z (drop-length b)
  whole (suc k) i s e h =
      let p = pair k i s e in
      let f = whole k (suc i) (s + size_of b i) p.1.1 (omega (arith, p)) in
      rw (← f) (cut_off i s p.0)

  -- the book is its header and contents pairs, and then the bodies, one after the other
  pub contents_whole : contents_ok b ≡ true → b ≡ take (first_body (count b)) b ++ concat (bodies b)
  unfolding contents_ok bodies
  contents_whole e =
      sym (take-append-drop (first_body (count b)) b)
      ∙ ap (λ (l : List ℕ). take (first_body (count b)) b ++ l)
      (whole (count b) 0 (first_body (count b)) (right (header_ok b) (bodies_ok b (count b) 0 (first_body (count b))) e) (contents_header b e).room)

  -- the part of the book from a start to an end that code cuts out
  pub part_is : (i a k : ℕ) → a ≡ start_of b i → k ≡ size_of b i → take (a + k - a) (drop a b) ≡ body b i
  unfolding body
  part_is i a k p q = let z : a + k - a ≡ k = omega arith in rw (z, p, q)

  listed : (k j i : ℕ) → i < k → bodies_from b j k ≡ take i (bodies_from b j k) ++ (body b (j + i) ∷ drop (suc i) (bodies_from b j k))
  unfolding bodies_from
  listed zero j i h = absurd (omega arith)
  listed (suc k) j zero h = let z : j + 0 ≡ j = omega arith in rw z
  listed (suc k) j (suc i) h = let z : j + suc i ≡ suc j + i = omega arith in rw z (ap (λ (bs : List (List ℕ)). body b j ∷ bs) (listed k (suc j) i (omega arith)))

  -- body i stands among the bodies behind i others
  pub bodies_at : (i : ℕ) → i < count b → bodies b ≡ take i (bodies b) ++ (body b i ∷ drop (suc i) (bodies b))
  unfolding bodies
  bodies_at i h = let z : 0 + i ≡ i = omega arith in rw z at (listed (count b) 0 i h)

  counted : (k i : ℕ) → length (bodies_from b i k) ≡ k
  unfolding bodies_from
  counted zero i = refl
  counted (suc k) i = ap suc (counted k (suc i))

  -- there are as many as the count says
  pub bodies_count : length (bodies b) ≡ count b
  unfolding bodies
  bodies_count = counted (count b) 0
