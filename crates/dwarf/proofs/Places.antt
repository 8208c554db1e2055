-- The first place of a number in a list.
use mathlib.Core.List.{List, [], ◌∷◌, ◌++◌}
use mathlib.Core.Path.{◌≡◌, refl, ap}
use Prim.Native.Nat.{ℕ, suc, ◌+◌, ◌≤◌, ◌<◌}
use native.Mathlib.Omega.{arith}
use lib.ListN.{length, get_or}
use mathlib.Core.Bool.{Bool, true, false, cond}
use lib.Dec.{eqb}
use borrow.Author.Tests.{eqb-true}
use Rattle.dwarf.specs.Cache.{first_in}

pub first_le : (l : List ℕ) (q : ℕ) → first_in l q ≤ length l
unfolding first_in
first_le [] q = omega arith
first_le (x ∷ l) q = go (eqb x q) (first_le l q)
  where
    go : (b : Bool) → first_in l q ≤ length l → cond b 0 (suc (first_in l q)) ≤ suc (length l)
    go true i = omega arith
    go false i = omega arith

-- what stands at the first place of q is q
pub first_holds : (l : List ℕ) (q : ℕ) → first_in l q < length l → get_or l (first_in l q) 0 ≡ q
unfolding first_in
first_holds [] q h = omega arith
first_holds (x ∷ l) q h = go (eqb x q) refl h (first_holds l q)
  where
    go : (b : Bool) → eqb x q ≡ b → cond b 0 (suc (first_in l q)) < suc (length l) → (first_in l q < length l → get_or l (first_in l q) 0 ≡ q)
        → get_or (x ∷ l) (cond b 0 (suc (first_in l q))) 0 ≡ q
    go true e h' i = eqb-true x q e
    go false e h' i = i (omega arith)

-- a list with a tail: the first place in the front if there is one, else in the tail
pub first_front : (l m : List ℕ) (q : ℕ) → first_in l q < length l → first_in (l ++ m) q ≡ first_in l q
unfolding first_in
first_front [] m q h = omega arith
first_front (x ∷ l) m q h = go (eqb x q) h (first_front l m q)
  where
    go : (b : Bool) → cond b 0 (suc (first_in l q)) < suc (length l) → (first_in l q < length l → first_in (l ++ m) q ≡ first_in l q)
        → cond b 0 (suc (first_in (l ++ m) q)) ≡ cond b 0 (suc (first_in l q))
    go true h' i = refl
    go false h' i = ap suc (i (omega arith))

pub first_tail : (l m : List ℕ) (q : ℕ) → first_in l q ≡ length l → first_in (l ++ m) q ≡ length l + first_in m q
unfolding first_in
first_tail [] m q h = omega arith
first_tail (x ∷ l) m q h = go (eqb x q) h (first_tail l m q)
  where
    go : (b : Bool) → cond b 0 (suc (first_in l q)) ≡ suc (length l) → (first_in l q ≡ length l → first_in (l ++ m) q ≡ length l + first_in m q)
        → cond b 0 (suc (first_in (l ++ m) q)) ≡ suc (length l) + first_in m q
    go true h' i = omega arith
    go false h' i = omega (arith, i (omega arith))
