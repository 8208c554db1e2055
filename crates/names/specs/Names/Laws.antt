-- What holds of the names of 64-bit ARM by their rule; how far the names of any family reach.
use Rattle.std.specs.Prelude.{◌≡◌, ℕ, ◌-◌, ◌≤◌, Bool, true, false, cond, ◌&&◌, ◌||◌, List, [], ◌++◌, leb, eqb}
use Rattle.std.proofs.Common.{refl, arith, ⊎_elim}
use Rattle.std.proofs.lemmas.Bool.Decides.{leb_tells}
use borrow.Author.Tests.{lt-leb, ne_eqb}
use Rattle.text.specs.Text.{ascii}
use Rattle.digits.specs.Digits.{decimal}
use Rattle.tables.specs.Tables.{listed_name}
use Rattle.tables.specs.Tables.Laws.{listed_past}
use Rattle.names.specs.Names.{arm64_cfi_name, cfi_name}

-- what holds of x and a number up to 30, of sp, of v and a number up to 31, and of no name, holds of each
pub arm64_cfi_each {ℓ} : (P : List ℕ → Type ℓ) → ((n : ℕ) → n ≤ 30 → P (ascii "x" ++ decimal n)) → P (ascii "sp")
    → ((n : ℕ) → n ≤ 31 → P (ascii "v" ++ decimal n)) → P [] → (register : ℕ) → P (arm64_cfi_name register)
unfolding arm64_cfi_name
arm64_cfi_each P x sp v none r = ⊎_elim (λ h. rw h.0 (x r h.1)) (λ h. rw h.0 (by (eqb r 31))) (leb_tells r 30)
  where
    past : P (cond (leb 64 r && leb r 95) (ascii "v" ++ decimal (r - 64)) [])
    past = ⊎_elim
        (λ h. ⊎_elim (λ k. rw (h.0, k.0) (v (r - 64) (omega (arith, k.1)))) (λ k. rw (h.0, k.0) none) (leb_tells r 95))
        (λ h. rw h.0 none) (leb_tells 64 r)

    by : (t : Bool) → P (cond t (ascii "sp") (cond (leb 64 r && leb r 95) (ascii "v" ++ decimal (r - 64)) []))
    by true = sp
    by false = past

-- past v31 there is none
pub arm64_cfi_past : (register : ℕ) → 96 ≤ register → arm64_cfi_name register ≡ []
unfolding arm64_cfi_name
arm64_cfi_past r h = rw (lt-leb r 30 (omega arith), ne_eqb r 31 (λ e. omega arith), lt-leb r 95 (omega arith)) (by (leb 64 r))
  where
    by : (t : Bool) → cond (t && false) (ascii "v" ++ decimal (r - 64)) [] ≡ []
    by true = refl
    by false = refl

-- no family has one past the longest table
pub cfi_past : (family register : ℕ) → 117 ≤ register → cfi_name family register ≡ []
unfolding cfi_name
cfi_past f r h = by (eqb f 4 || eqb f 9)
  where
    by : (t : Bool) → cond t (arm64_cfi_name r) (listed_name f r) ≡ []
    by true = arm64_cfi_past r (omega arith)
    by false = listed_past f r h
