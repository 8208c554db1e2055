-- Laws of `Put` and `Left`: texts put one after the other are one text put; what a caller makes of it.
use Rattle.std.specs.Prelude.{◌≡◌, refl, List, [], ◌∷◌, ◌++◌, ℕ, suc, ◌+◌, ◌≤◌, ◌<◌, min, length, take, drop, set}
use Rattle.std.proofs.Common.{sym, ap, ◌∙◌, subst, append_assoc, append-nil, arith, length-append}
use Rattle.std.proofs.Math.Decide.{dec_le}
use Rattle.std.proofs.lemmas.List.Edits.{sets, sets-eq}
use Rattle.std.proofs.Math.Seq.{set_out, length-sets, take-append_seam}
use Rattle.text.specs.Text.{MAX, Put, Left}

-- ---- stores into a list

-- past the end nothing is stored
pub sets_out : (bs d : List ℕ) (i : ℕ) → length d ≤ i → sets d i bs ≡ d
sets_out [] d i h = refl
sets_out (b ∷ bs) d i h = rw (set_out d i b) (sets_out bs d (suc i) (omega arith))

pub sets_append : (xs ys d : List ℕ) (i : ℕ) → sets d i (xs ++ ys) ≡ sets (sets d i xs) (i + length xs) ys
sets_append [] ys d i = ap (λ (k : ℕ). sets d k ys) (omega arith)
sets_append (x ∷ xs) ys d i =
    sets_append xs ys (set d i x) (suc i)
    ∙ ap (λ (k : ℕ). sets (sets (set d i x) (suc i) xs) k ys) (omega arith)

-- a place past the end is as good as another
sets_min : (bs d : List ℕ) (i : ℕ) → length d ≤ MAX → sets d (min i MAX) bs ≡ sets d i bs
sets_min bs d i h = go (dec_le i MAX)
  where
    go : Dec (i ≤ MAX) → sets d (min i MAX) bs ≡ sets d i bs
    go (yes p) = ap (λ (k : ℕ). sets d k bs) (omega arith)
    go (no p) = sets_out bs d (min i MAX) (omega arith) ∙ sym (sets_out bs d i (omega arith))

-- ---- puts

pub put_none : {d : List ℕ} {at : ℕ} → length d ≤ MAX → at ≤ MAX → Put d at [] d at
put_none h k = record { bytes = refl; next = omega arith; short = h }

-- one after the other
infixl 30 ◌⨾◌
pub ◌⨾◌ : {d d₁ d₂ s t : List ℕ} {at r₁ r₂ : ℕ} → Put d at s d₁ r₁ → Put d₁ r₁ t d₂ r₂ → Put d at (s ++ t) d₂ r₂
◌⨾◌ {d} {d₁} {d₂} {s} {t} {at} {r₁} {r₂} p q = record {
  bytes =
      q.bytes
      ∙ ap (λ (l : List ℕ). sets l r₁ t) p.bytes
      ∙ ap (λ (k : ℕ). sets (sets d at s) k t) p.next
      ∙ sets_min t (sets d at s) (at + length s) (rw length-sets p.short)
      ∙ sym (sets_append s t d at);
  next = omega (arith, length-append s t, p.next, q.next);
  short = p.short;
}

-- the same text by another name
pub put_as : {d d' s t : List ℕ} {at r : ℕ} → Put d at s d' r → s ≡ t → Put d at t d' r
put_as {d} {d'} {s} {t} {at} {r} p e = subst (λ (l : List ℕ). Put d at l d' r) e p

pub put_length : {d d' s : List ℕ} {at r : ℕ} → Put d at s d' r → length d' ≡ length d
put_length {d} {d'} {s} {at} {r} p = ap length p.bytes ∙ length-sets d at s

-- where all fits, the text stands at its place and the rest is as it was
pub put_fits : {d d' s : List ℕ} {at r : ℕ} → Put d at s d' r → at + length s ≤ length d → (r ≡ at + length s) × (d' ≡ take at d ++ s ++ drop (at + length s) d)
put_fits {d} {d'} {s} {at} {r} p h = (omega (arith, p.next, p.short), p.bytes ∙ sets-eq s d at h)

-- the whole text was written just where the place after it lies within the slice
pub put_whole : {d d' s : List ℕ} {r : ℕ} → Put d 0 s d' r → length d < MAX → r ≤ length d → (r ≡ length s) × (take r d' ≡ s)
put_whole {d} {d'} {s} {r} p h k =
    let e : r ≡ length s = omega (arith, p.next) in
    let f : 0 + length s ≤ length d = omega arith in
    (e, ap (λ (n : ℕ). take n d') e ∙ ap (take (length s)) (p.bytes ∙ sets-eq s d 0 f) ∙ take-append_seam s (drop (0 + length s) d))

-- a place below the largest usize is the text's length: it was measured, whatever the room
pub put_measured : {d d' s : List ℕ} {r : ℕ} → Put d 0 s d' r → r < MAX → r ≡ length s
put_measured {d} {d'} {s} {r} p h = omega (arith, p.next)

-- ---- loops: what is left to put

pub left_all : {d t : List ℕ} {at : ℕ} → length d ≤ MAX → at ≤ MAX → Left d at t d at t
left_all h k = record { done = []; put = put_none h k; rest = refl }

pub left_put : {d t d₁ u v d₂ : List ℕ} {at p q : ℕ} → Left d at t d₁ p (u ++ v) → Put d₁ p u d₂ q → Left d at t d₂ q v
left_put {d} {t} {d₁} {u} {v} l x = record { done = l.done ++ u; put = l.put ⨾ x; rest = append_assoc l.done u v ∙ l.rest }

pub left_as : {d t d₁ u v : List ℕ} {at p : ℕ} → Left d at t d₁ p u → u ≡ v → Left d at t d₁ p v
left_as {d} {t} {d₁} {u} {v} {at} {p} l e = subst (λ (w : List ℕ). Left d at t d₁ p w) e l

pub left_none : {d t d₁ : List ℕ} {at p : ℕ} → Left d at t d₁ p [] → Put d at t d₁ p
left_none l = put_as l.put (sym (append-nil l.done) ∙ l.rest)
