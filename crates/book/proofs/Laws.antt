-- The turns of the check of the bodies, and the words of the contents pairs that it reads.
use mathlib.Core.List.{List, []}
use mathlib.Core.Path.{◌≡◌, refl}
use mathlib.Core.Bool.{false}
use Prim.Native.Nat.{ℕ, zero, suc, ◌+◌, ◌-◌, ◌*◌, ◌≤◌, ◌<◌}
use native.Mathlib.Omega.{arith}
use native.Mathlib.Numerals.{add-one}
use lib.ListN.{length, take, drop, get_or}
use Rattle.std.proofs.Common.{ap, sym, ◌∙◌, ◌/◌, length-take, length-drop}
use Rattle.std.proofs.lemmas.List.{get_or-take, get_or-drop}
use Rattle.std.proofs.Math.Seq.{drop-drop}
use Rattle.std.specs.Simd.{first_chunks}
use lib.Dec.{eqb}
use borrow.Author.Tests.{eq-eqb, ne_eqb, le-leb, lt-leb}
use Rattle.book.specs.Book.{bodies_ok, start_of, size_of}

module _ (b : List ℕ) (n i s : ℕ) where
  pub apart : i < n → (start_of b i ≡ s → ⊥) → false ≡ bodies_ok b (n - i) i s
  unfolding bodies_ok
  apart h ne = let e : n - i ≡ suc (n - suc i) = omega arith in rw e (simp (ne_eqb (start_of b i) s ne))

  pub past : i < n → start_of b i ≡ s → length b - s < size_of b i → false ≡ bodies_ok b (n - i) i s
  unfolding bodies_ok
  past h q l = let e : n - i ≡ suc (n - suc i) = omega arith in rw e (simp (eq-eqb (start_of b i) s q, lt-leb (size_of b i) (length b - s) l))

  pub onward : i < n → start_of b i ≡ s → size_of b i ≤ length b - s → bodies_ok b (n - i) i s ≡ bodies_ok b (n - (i + 1)) (i + 1) (s + size_of b i)
  unfolding bodies_ok
  onward h q l =
      let e : n - i ≡ suc (n - suc i) = omega arith in
      rw (add-one, e) (simp (eq-eqb (start_of b i) s q, le-leb (size_of b i) (length b - s) l))

  pub finished : n ≤ i → bodies_ok b (n - i) i s ≡ eqb s (length b)
  unfolding bodies_ok
  finished h = let e : n - i ≡ 0 = omega arith in rw e

-- pair i of the k that stand in m words
pair_at : (s : List ℕ) (k i : ℕ) → i < k → get_or (first_chunks 2 k s) i [] ≡ take 2 (drop (2 * i) s)
pair_at s zero i h = absurd (omega arith)
pair_at s (suc k) zero h = refl
pair_at s (suc k) (suc i) h =
    let e : 2 + 2 * i ≡ 2 * suc i = omega arith in
    pair_at (drop 2 s) k i (omega arith) ∙ ap (take 2) (drop-drop (2 * i) 2 s) ∙ ap (λ (n : ℕ). take 2 (drop n s)) e

chunks_length : (s : List ℕ) (k : ℕ) → length (first_chunks 2 k s) ≡ k
chunks_length s zero = refl
chunks_length s (suc k) = ap suc (chunks_length (drop 2 s) k)

module _ (b : List ℕ) (m k i : ℕ) (h : i < k) where
  word_at : (j : ℕ) → j < 2 → 2 * i + j < m → get_or (get_or (first_chunks 2 k (take m (drop 2 b))) i []) j 0 ≡ get_or b (2 + (2 * i + j)) 0
  word_at j u v =
      ap (λ (p : List ℕ). get_or p j 0) (pair_at (take m (drop 2 b)) k i h) ∙ get_or-take 2 (drop (2 * i) (take m (drop 2 b))) j 0 u
      ∙ get_or-drop (2 * i) (take m (drop 2 b)) j 0 ∙ get_or-take m (drop 2 b) (2 * i + j) 0 v ∙ get_or-drop 2 b (2 * i + j) 0

  pub start_at : 2 * i < m → get_or (get_or (first_chunks 2 k (take m (drop 2 b))) i []) 0 0 ≡ start_of b i
  unfolding start_of
  start_at v = let e : 2 + (2 * i + 0) ≡ 2 + 2 * i = omega arith in word_at 0 (omega arith) (omega arith) ∙ ap (λ (n : ℕ). get_or b n 0) e

  pub size_at : 2 * i + 1 < m → get_or (get_or (first_chunks 2 k (take m (drop 2 b))) i []) 1 0 ≡ size_of b i
  unfolding size_of
  size_at v = let e : 2 + (2 * i + 1) ≡ 3 + 2 * i = omega arith in word_at 1 (omega arith) (omega arith) ∙ ap (λ (n : ℕ). get_or b n 0) e

-- the same of the pairs as the code has them, where n of them are there
module _ (b : List ℕ) (n m : ℕ) (ps : List (List ℕ)) (q : ps ≡ first_chunks 2 (length (take m (drop 2 b)) / 2) (take m (drop 2 b))) (e : m ≡ 2 * n) (f : 2 + 2 * n ≤ length b) where
  pub pairs_count : length ps ≡ n
  pairs_count = omega (arith, ap length q, chunks_length (take m (drop 2 b)) (length (take m (drop 2 b)) / 2), length-take m (drop 2 b), length-drop 2 b)

  pub start_is : (i : ℕ) → i < n → get_or (get_or ps i []) 0 0 ≡ start_of b i
  start_is i h = rw q (start_at b m (length (take m (drop 2 b)) / 2) i (omega (arith, length-take m (drop 2 b), length-drop 2 b)) (omega arith))

  pub size_is : (i : ℕ) → i < n → get_or (get_or ps i []) 1 0 ≡ size_of b i
  size_is i h = rw q (size_at b m (length (take m (drop 2 b)) / 2) i (omega (arith, length-take m (drop 2 b), length-drop 2 b)) (omega arith))

  -- a turn: pair i is not where it must be, does not end within the book, or is passed
  module _ (i s : ℕ) (h : i < length ps) where
    behind : i < n
    behind = omega (arith, pairs_count)

    pub pair_apart : (get_or (get_or ps i []) 0 0 ≡ s → ⊥) → false ≡ bodies_ok b (n - i) i s
    pair_apart k = apart b n i s behind (λ z. k (start_is i behind ∙ z))

    pub pair_past : get_or (get_or ps i []) 0 0 ≡ s → length b - s < get_or (get_or ps i []) 1 0 → false ≡ bodies_ok b (n - i) i s
    pair_past z k = past b n i s behind (sym (start_is i behind) ∙ z) (omega (arith, size_is i behind))

    pub pair_onward : get_or (get_or ps i []) 0 0 ≡ s → get_or (get_or ps i []) 1 0 ≤ length b - s
        → bodies_ok b (n - i) i s ≡ bodies_ok b (n - (i + 1)) (i + 1) (s + get_or (get_or ps i []) 1 0)
    pair_onward z k = rw (size_is i behind) (onward b n i s behind (sym (start_is i behind) ∙ z) (omega (arith, size_is i behind)))

    pub pair_few : i + 1 ≤ n
    pair_few = omega (arith, behind)

  pub pairs_finished : (i s : ℕ) → length ps ≤ i → bodies_ok b (n - i) i s ≡ eqb s (length b)
  pairs_finished i s h = finished b n i s (omega (arith, pairs_count))
