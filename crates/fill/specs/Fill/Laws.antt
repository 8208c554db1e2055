-- What the contract gives, and how it is met.
use Rattle.std.specs.Prelude.{◌≡◌, refl, List, [], ◌∷◌, ◌++◌, ℕ, suc, ◌+◌, ◌≤◌, ◌<◌, Result, Ok, Err, length, take, drop, set}
use Rattle.std.proofs.Common.{sym, ap, ◌∙◌, arith, set-set, lt-ltb, le-ltb, length-append}
use Rattle.std.proofs.lemmas.List.Edits.{sets}
use Rattle.std.proofs.lemmas.List.{set_comm}
use Rattle.std.proofs.Math.Seq.{take-append_seam}
use Rattle.text.specs.Text.{MAX, Put, Left}
use Rattle.text.specs.Text.Laws.{put_fits, put_length, left_all, left_put, left_as, left_none}
use Rattle.refusal.specs.declared.Refusal.{Refusal}
use Rattle.refusal.specs.declared.Refusal.TheVariants.{Room}
use Rattle.refusal.specs.Refusal.{number, answer_number}
use Rattle.fill.specs.Fill.{Fill, refused, roomed, Fills}

-- ---- the contract

-- how many were filled: none where it was turned away
abbrev pub count : Result ℕ Refusal → ℕ
count (Ok n) = n
count (Err r) = 0

module _ {A : Type 0} where
  -- a call that is turned away
  pub fills_refused : (r : Refusal) (d : List A) → Fills (refused (number r)) d d (Err r)
  fills_refused r d = record { number_is = refl; none_is = refl; room_is = refl }

  -- whatever the answer: its number and its count are those of what the call comes to, and what is filled stands in front
  pub record Answers (f : Fill A) (d d' : List A) (n k : ℕ) : Type 0 where
    pub number_is : n ≡ f.number
    pub filled_is : k ≡ length f.placed
    pub room_is : d' ≡ f.placed ++ drop (length f.placed) d

  pub answers : (f : Fill A) (d d' : List A) (r : Result ℕ Refusal) → Fills f d d' r → Answers f d d' (answer_number r) (count r)
  answers f d d' (Ok n) c = record { number_is = sym c.number_is; filled_is = c.filled_is; room_is = c.room_is }
  answers f d d' (Err r) c = record { number_is = c.number_is; filled_is = rw c.none_is refl; room_is = rw c.none_is c.room_is }

  -- what was filled stands in front
  pub filled_front : (f : Fill A) (d d' : List A) (r : Result ℕ Refusal) → Fills f d d' r → take (count r) d' ≡ f.placed
  filled_front f d d' r p =
      let c = answers f d d' r p in
      ap (λ (n : ℕ). take n d') c.filled_is ∙ ap (take (length f.placed)) c.room_is ∙ take-append_seam f.placed (drop (length f.placed) d)

  -- what stood in the room does not matter: two rooms on which a call comes to the same have the same in front
  pub filled_alike : (f : Fill A) (d d' e e' : List A) (r s : Result ℕ Refusal) → Fills f d d' r → Fills f e e' s
      → (answer_number r ≡ answer_number s) × ((count r ≡ count s) × (take (count r) d' ≡ take (count s) e'))
  filled_alike f d d' e e' r s p q =
      let a = answers f d d' r p in
      let b = answers f e e' s q in
      (a.number_is ∙ sym b.number_is, (a.filled_is ∙ sym b.filled_is, filled_front f d d' r p ∙ sym (filled_front f e e' s q)))

-- ---- words put into the room

-- all words fit, so they are filled
pub fills_put : {ws d d' : List ℕ} {r : ℕ} → Put d 0 ws d' r → length ws ≤ length d → Fills (roomed (length d) ws) d d' (Ok r)
fills_put {ws} {d} {d'} {r} p h =
    let f = put_fits p (omega (arith, h)) in
    let e : 0 + length ws ≡ length ws = omega arith in
    rw (le-ltb (length d) (length ws) h) (record { number_is = refl; filled_is = omega (arith, f.0); room_is = f.1 ∙ ap (λ (n : ℕ). ws ++ drop n d) e })

-- they do not, so nothing is
pub fills_short : (ws d : List ℕ) → length d < length ws → Fills (roomed (length d) ws) d d (Err Room)
fills_short ws d h = rw (lt-ltb (length d) (length ws) h) (fills_refused Room d)

-- ---- loops that put words into a room where all of them fit

-- of the words t, put at `at` of d, the words u are left to put at p of d₁
pub record Fitting (d : List ℕ) (at : ℕ) (t d₁ : List ℕ) (p : ℕ) (u : List ℕ) : Type 0 where
  pub room : at + length t ≤ length d
  pub left : Left d at t d₁ p u

pub fitting_all : {d t : List ℕ} {at : ℕ} → at + length t ≤ length d → length d ≤ MAX → Fitting d at t d at t
fitting_all r h = record { room = r; left = left_all h (omega arith) }

-- what is left fits too
pub fitting_room : {d t d₁ u : List ℕ} {at p : ℕ} → Fitting d at t d₁ p u → p + length u ≤ length d₁
fitting_room {d} {t} {d₁} {u} {at} {p} l =
    omega (arith, l.room, l.left.put.next, l.left.put.short, put_length l.left.put, length-append l.left.done u, ap length l.left.rest)

pub fitting_put : {d t d₁ u v w d₂ : List ℕ} {at p q : ℕ} → Fitting d at t d₁ p u → u ≡ v ++ w → Put d₁ p v d₂ q → Fitting d at t d₂ q w
fitting_put l e x = record { room = l.room; left = left_put (left_as l.left e) x }

pub fitting_none : {d t d₁ u : List ℕ} {at p : ℕ} → Fitting d at t d₁ p u → u ≡ [] → Put d at t d₁ p × (p ≡ at + length t)
fitting_none l e = let x = left_none (left_as l.left e) in (x, (put_fits x l.room).0)

-- ---- a word that is stored again

set_before : (ws d : List ℕ) (k i c : ℕ) → k < i → set (sets d i ws) k c ≡ sets (set d k c) i ws
set_before [] d k i c h = refl
set_before (w ∷ ws) d k i c h =
    set_before ws (set d i w) k (suc i) c (omega arith)
    ∙ ap (λ (l : List ℕ). sets l (suc i) ws) (set_comm d i k w c (λ e. omega arith))

-- the third of the words put at `at`
pub third : {d d' ws : List ℕ} {at r x a b : ℕ} (c : ℕ) → Put d at (a ∷ b ∷ x ∷ ws) d' r → Put d at (a ∷ b ∷ c ∷ ws) (set d' (at + 2) c) r
third {d} {d'} {ws} {at} {r} {x} {a} {b} c p =
    let z : at + 2 ≡ suc (suc at) = omega arith in
    record {
      bytes =
          ap (λ (k : ℕ). set d' k c) z
          ∙ ap (λ (l : List ℕ). set l (suc (suc at)) c) p.bytes
          ∙ set_before ws (set d₂ (suc (suc at)) x) (suc (suc at)) (suc (suc (suc at))) c (omega arith)
          ∙ ap (λ (l : List ℕ). sets l (suc (suc (suc at))) ws) (set-set d₂ (suc (suc at)) x c);
      next = p.next;
      short = p.short;
    }
  where
    d₂ : List ℕ
    d₂ = set (set d at a) (suc at) b
