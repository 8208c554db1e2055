-- Digits stored from the last one back: what is left to store, and how many digits there are.
use mathlib.Core.Path.{◌≡◌, refl, sym, ap, ◌∙◌, subst}
use mathlib.Core.List.{List, [], ◌∷◌, ◌++◌, append_assoc, append-nil}
use Prim.Native.Nat.{ℕ, zero, suc, ◌+◌, ◌-◌, ◌/◌, ◌%◌, ◌≤◌, ◌<◌}
use native.Mathlib.Nat.{mod-eq_of_lt}
use native.Mathlib.Omega.{arith}
use lib.ListN.{length, set, length-append}
use lib.Seq.{sets, set_comm}
use Rattle.text.specs.Text.{MAX, Put}
use Rattle.digits.specs.Digits.{digit, digits}
use Rattle.digits.specs.Digits.Laws.{digits_ind}

-- the last k digits of v
abbrev pub low : ℕ → ℕ → ℕ → List ℕ
low b zero v = []
low b (suc k) v = low b k (v / b) ++ (digit (v % b) ∷ [])

low_all : (b n : ℕ) → 1 < b → low b (length (digits b n)) n ≡ digits b n
low_all b n two = digits_ind b (λ m ds. low b (length ds) m ≡ ds) two
    (λ m h. ap (λ (d : ℕ). digit d ∷ []) (mod-eq_of_lt h))
    (λ m ds h e.
    let k : length (ds ++ (digit (m % b) ∷ [])) ≡ suc (length ds) = omega (arith, length-append ds (digit (m % b) ∷ [])) in
    ap (λ (j : ℕ). low b j m) k ∙ ap (λ (l : List ℕ). l ++ (digit (m % b) ∷ [])) e)
    n

-- a store in front of a run of stores may be made after it
set_sets : (bs d : List ℕ) (i j c : ℕ) → i < j → set (sets d j bs) i c ≡ sets (set d i c) j bs
set_sets [] d i j c h = refl
set_sets (b ∷ bs) d i j c h =
    set_sets bs (set d j b) i (suc j) c (omega arith)
    ∙ ap (λ (l : List ℕ). sets l (suc j) bs) (set_comm d j i b c (λ e. omega arith))

-- of the digits of x, to be stored at `at` of `d`, the last k digits of v are left to store into `d₁`
pub record Back (b x : ℕ) (d : List ℕ) (at k v : ℕ) (d₁ : List ℕ) : Type 0 where
  pub tail : List ℕ
  pub stored : d₁ ≡ sets d (at + k) tail
  pub rest : low b k v ++ tail ≡ digits b x

pub back_all : (b x : ℕ) (d : List ℕ) (at n : ℕ) → 1 < b → n ≡ length (digits b x) → Back b x d at n x d
back_all b x d at n two e = record { tail = []; stored = refl; rest = append-nil (low b n x) ∙ ap (λ (k : ℕ). low b k x) e ∙ low_all b x two }

back_one : {b x : ℕ} {d : List ℕ} {at k v : ℕ} {d₁ : List ℕ} (c : ℕ) → Back b x d at (suc k) v d₁ → c ≡ digit (v % b) → Back b x d at k (v / b) (set d₁ (at + k) c)
back_one {b} {x} {d} {at} {k} {v} {d₁} c p e = record {
  tail = c ∷ p.tail;
  stored =
      ap (λ (l : List ℕ). set l (at + k) c) p.stored
      ∙ set_sets p.tail d (at + k) (at + suc k) c (omega arith)
      ∙ ap (λ (j : ℕ). sets (set d (at + k) c) j p.tail) (omega arith);
  rest =
      ap (λ (y : ℕ). low b k (v / b) ++ (y ∷ p.tail)) e
      ∙ sym (append_assoc (low b k (v / b)) (digit (v % b) ∷ []) p.tail)
      ∙ p.rest;
}

pub back_more : {b x : ℕ} {d : List ℕ} {at k v : ℕ} {d₁ : List ℕ} (c : ℕ) → 0 < k → Back b x d at k v d₁ → c ≡ digit (v % b)
    → Back b x d at (k - 1) (v / b) (set d₁ (at + (k - 1)) c)
back_more {b} {x} {d} {at} {k} {v} {d₁} c h p e =
    let s : k ≡ suc (k - 1) = omega arith in
    back_one c (subst (λ (j : ℕ). Back b x d at j v d₁) s p) e

pub back_put : {b x n : ℕ} {d : List ℕ} {at k v : ℕ} {d₁ : List ℕ} → Back b x d at k v d₁ → k ≤ 0 → n ≡ length (digits b x) → at + n ≤ length d → length d ≤ MAX
    → Put d at (digits b x) d₁ (at + n)
back_put {d = d} {at = at} {k = zero} p z e f h =
    record { bytes = p.stored ∙ ap (λ (i : ℕ). sets d i p.tail) (omega arith) ∙ ap (sets d at) p.rest; next = omega (arith, e); short = h }
back_put {k = suc k} p z e f h = absurd (omega arith)
