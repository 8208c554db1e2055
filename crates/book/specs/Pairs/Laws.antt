-- The pairs of a book name its bodies.
use Rattle.std.specs.Prelude.{◌≡◌, refl, List, ◌∷◌, Bool, ℕ, zero, suc, ◌+◌, ◌-◌, ◌*◌, ◌≤◌, ◌<◌, ◌&&◌, true, false, length, get_or, take, drop, map}
use Rattle.std.proofs.Common.{◌∙◌, ap, arith, le-leb, length-drop}
use Rattle.std.proofs.lemmas.List.{take_all, get_or-take, get_or-drop}
use Rattle.std.proofs.Math.Seq.{drop-drop}
use Rattle.std.specs.List.{list_all}
use Rattle.std.specs.Simd.{first_chunks}
use borrow.Author.Tests.{leb-true}
use Rattle.book.specs.Book.{count, start_of, size_of, body, bodies_from, bodies, contents_ok}
use Rattle.book.specs.Book.Laws.{body_within}
use Rattle.book.specs.Pairs.{body_in, is_inside}

take_chunks : (n m : ℕ) (xs : List ℕ) → n ≤ m → take n (first_chunks 2 m xs) ≡ first_chunks 2 n xs
take_chunks zero m xs h = refl
take_chunks (suc n) zero xs h = absurd (omega arith)
take_chunks (suc n) (suc m) xs h = ap (λ (l : List (List ℕ)). take 2 xs ∷ l) (take_chunks n m (drop 2 xs) (omega arith))

module _ (b : List ℕ) where
  -- the two words of pair i
  first_of : (i : ℕ) → get_or (take 2 (drop (2 + 2 * i) b)) 0 0 ≡ start_of b i
  unfolding start_of
  first_of i =
      let e : 2 + 2 * i + 0 ≡ 2 + 2 * i = omega arith in
      get_or-take 2 (drop (2 + 2 * i) b) 0 0 (omega arith) ∙ get_or-drop (2 + 2 * i) b 0 0 ∙ ap (λ (n : ℕ). get_or b n 0) e

  second_of : (i : ℕ) → get_or (take 2 (drop (2 + 2 * i) b)) 1 0 ≡ size_of b i
  unfolding size_of
  second_of i =
      let e : 2 + 2 * i + 1 ≡ 3 + 2 * i = omega arith in
      get_or-take 2 (drop (2 + 2 * i) b) 1 0 (omega arith) ∙ get_or-drop (2 + 2 * i) b 1 0 ∙ ap (λ (n : ℕ). get_or b n 0) e

  behind : (i : ℕ) → drop 2 (drop (2 + 2 * i) b) ≡ drop (2 + 2 * suc i) b
  behind i = let e : 2 + 2 * i + 2 ≡ 2 + 2 * suc i = omega arith in drop-drop 2 (2 + 2 * i) b ∙ ap (λ (n : ℕ). drop n b) e

  named : (k i : ℕ) → map (body_in b) (first_chunks 2 k (drop (2 + 2 * i) b)) ≡ bodies_from b i k
  unfolding bodies_from body
  named zero i = refl
  named (suc k) i = rw (first_of i, second_of i, behind i) (ap (λ (l : List (List ℕ)). body b i ∷ l) (named k (suc i)))

  inside : (k i : ℕ) → ((j : ℕ) → j < i + k → start_of b j + size_of b j ≤ length b) → list_all (is_inside b) (first_chunks 2 k (drop (2 + 2 * i) b)) ≡ true
  inside zero i h = refl
  inside (suc k) i h =
      rw (first_of i, second_of i, behind i, le-leb (start_of b i + size_of b i) (length b) (h i (omega arith)))
      (inside k (suc i) (λ j l. h j (omega arith)))

  -- the first pair's body lies within, and so do those behind
  pub pair_inside : (p : List ℕ) (ps : List (List ℕ)) → list_all (is_inside b) (p ∷ ps) ≡ true
      → (get_or p 0 0 + get_or p 1 0 ≤ length b) × (list_all (is_inside b) ps ≡ true)
  pair_inside p ps h = go (is_inside b p) refl h
    where
      go : (t : Bool) → is_inside b p ≡ t → (t && list_all (is_inside b) ps) ≡ true → (get_or p 0 0 + get_or p 1 0 ≤ length b) × (list_all (is_inside b) ps ≡ true)
      go true e h = (leb-true (get_or p 0 0 + get_or p 1 0) (length b) e, h)
      go false e h = absurd cc

  -- of the pairs from word 2 on the first are the contents, as many as the count says
  module _ (n m : ℕ) (ps : List (List ℕ)) (q : n ≡ count b) (p : ps ≡ first_chunks 2 m (take (length b - 2) (drop 2 b))) (l : n ≤ m) where
    pairs_are : take n ps ≡ first_chunks 2 (count b) (drop 2 b)
    pairs_are = rw (p, take_all (length b - 2) (drop 2 b) (omega (arith, length-drop 2 b)), take_chunks n m (drop 2 b) l, q) refl

    pub pairs_named : map (body_in b) (take n ps) ≡ bodies b
    unfolding bodies
    pairs_named = rw pairs_are (named (count b) 0)

    pub pairs_inside : contents_ok b ≡ true → list_all (is_inside b) (take n ps) ≡ true
    pairs_inside e = rw pairs_are (inside (count b) 0 (λ j h. body_within b e j (omega arith)))
