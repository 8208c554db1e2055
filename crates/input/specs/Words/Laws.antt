-- Words filled in one after the other, and what the tests of the length find.
use Rattle.std.specs.Prelude.{◌≡◌, refl, List, [], ◌∷◌, ◌++◌, ℕ, zero, suc, ◌+◌, ◌*◌, ◌/◌, ◌%◌, ◌≤◌, ◌<◌, min, length, get_or, set, take, drop}
use Rattle.std.proofs.Common.{◌∙◌, ap, sym, w32, arith, add-one, le-leb, eq-eqb, ne_eqb, length-append, drop-cons}
use Rattle.std.proofs.lemmas.Bool.{lt-leb}
use Rattle.std.proofs.lemmas.List.{set_at, get_or-take, get_or-drop}
use Rattle.std.proofs.Math.Seq.{append_snoc, drop-drop}
use Rattle.std.specs.Int.{from_le_bytes}
use Rattle.std.specs.Simd.{first_chunks}
use Rattle.input.specs.Words.{word_of, words_of, word_count, IsNoBook, AreWords}

pub words_length : (s : List ℕ) (n : ℕ) → length (words_of s n) ≡ n
unfolding words_of
words_length s zero = refl
words_length s (suc n) = rw (length-append, words_length s n) (omega arith)

fill : (xs d : List ℕ) (n v : ℕ) → length xs ≡ n → n < length d → set (xs ++ drop n d) n v ≡ xs ++ (v ∷ []) ++ drop (suc n) d
fill xs d n v e h = rw (drop-cons d n 0 h, append_snoc xs v (drop (suc n) d)) (set_at xs (get_or d n 0) (drop (suc n) d) v n e)

pub words_more : (s d : List ℕ) (n : ℕ) → n < length d
    → set (words_of s n ++ drop n d) n (word_of (get_or s (4 * n) 0) (get_or s (4 * n + 1) 0) (get_or s (4 * n + 2) 0) (get_or s (4 * n + 3) 0)) ≡ words_of s (n + 1) ++ drop (n + 1) d
unfolding words_of
words_more s d n h = rw (add-one n) (fill (words_of s n) d n _ (words_length s n) h)

-- four bytes of a book as the code has them, at word i
chunk_at : (s : List ℕ) (k i : ℕ) (d : List ℕ) → i < k → get_or (first_chunks 4 k s) i d ≡ take 4 (drop (4 * i) s)
chunk_at s zero i d h = absurd (omega arith)
chunk_at s (suc k) zero d h = refl
chunk_at s (suc k) (suc i) d h =
    let e : 4 + 4 * i ≡ 4 * suc i = omega arith in
    chunk_at (drop 4 s) k i d (omega arith) ∙ ap (take 4) (drop-drop (4 * i) 4 s) ∙ ap (λ (n : ℕ). take 4 (drop n s)) e

chunks_length : (s : List ℕ) (k : ℕ) → length (first_chunks 4 k s) ≡ k
chunks_length s zero = refl
chunks_length s (suc k) = ap suc (chunks_length (drop 4 s) k)

byte_at : (s : List ℕ) (a j : ℕ) → j < 4 → get_or (take 4 (drop a s)) j 0 ≡ get_or s (a + j) 0
byte_at s a j h = get_or-take 4 (drop a s) j 0 h ∙ get_or-drop a s j 0

le_word : (bs : List ℕ) → from_le_bytes w32 bs ≡ word_of (get_or bs 0 0) (get_or bs 1 0) (get_or bs 2 0) (get_or bs 3 0)
le_word bs = omega arith

-- the n-th of them as a number
pub word_at : (s : List ℕ) (k n : ℕ) (d : List ℕ) → n < k
    → from_le_bytes w32 (get_or (first_chunks 4 k s) n d) ≡ word_of (get_or s (4 * n) 0) (get_or s (4 * n + 1) 0) (get_or s (4 * n + 2) 0) (get_or s (4 * n + 3) 0)
word_at s k n d h =
    let e : 4 * n + 0 ≡ 4 * n = omega arith in
    rw (chunk_at s k n d h, le_word, byte_at s (4 * n) 0 (omega arith), byte_at s (4 * n) 1 (omega arith), byte_at s (4 * n) 2 (omega arith), byte_at s (4 * n) 3 (omega arith), e) refl

-- one word more, read from a book's four bytes
pub fours_more : (s d : List ℕ) (ws : List (List ℕ)) (n m : ℕ) (e : List ℕ) → AreWords s ws → n < m → m ≤ length ws → n < length d
    → set (words_of s n ++ drop n d) n (from_le_bytes w32 (get_or (take m ws) n e)) ≡ words_of s (n + 1) ++ drop (n + 1) d
fours_more s d ws n m e a h l r =
    rw (get_or-take m ws n e h, a.fours, word_at s (length s / 4) n e (omega (arith, ap length a.fours, chunks_length s (length s / 4)))) (words_more s d n r)

-- what the tests of the length find
pub too_long : (n room : ℕ) → 65536 < n → 0 ≡ word_count n room
unfolding word_count
too_long n room h = rw (lt-leb n 65536 h) refl

pub broken : (n room : ℕ) → n ≤ 65536 → (n % 4 ≡ 0 → ⊥) → 0 ≡ word_count n room
unfolding word_count
broken n room h k = rw (le-leb n 65536 h, ne_eqb (n % 4) 0 k) refl

pub whole : (n room : ℕ) → n ≤ 65536 → n % 4 ≡ 0 → min (n / 4) room ≡ word_count n room
unfolding word_count
whole n room h k = rw (le-leb n 65536 h, eq-eqb (n % 4) 0 k) refl

-- the same of the bytes
pub long_none : (s : List ℕ) → 65536 < length s → IsNoBook s
long_none s h room = sym (too_long (length s) room h)

pub broken_none : (s : List ℕ) → length s ≤ 65536 → (length s % 4 ≡ 0 → ⊥) → IsNoBook s
broken_none s h k room = sym (broken (length s) room h k)

pub whole_words : (s : List ℕ) (ws : List (List ℕ)) → length s ≤ 65536 → length s % 4 ≡ 0 → ws ≡ first_chunks 4 (length s / 4) s → length ws ≡ length s / 4 → AreWords s ws
whole_words s ws h k e l = record { fours = e; count_is = λ room. sym (whole (length s) room h k) ∙ ap (λ n. min n room) (sym l) }
