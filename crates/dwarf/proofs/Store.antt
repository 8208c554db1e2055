-- What a store does to the rules last seen.
use mathlib.Core.List.{List, [], ◌∷◌, ◌++◌}
use mathlib.Core.Path.{◌≡◌, refl, ap, sym, ◌∙◌, fun_ext}
use mathlib.Core.Bool.{Bool, true, false, cond}
use Prim.Native.Nat.{ℕ, ◌+◌, ◌≤◌, ◌<◌}
use native.Mathlib.Numerals.{add-one}
use native.Mathlib.Omega.{arith}
use lib.ListN.{length, take, get_or, set}
use Rattle.std.specs.Prelude.{Option, Some, None, position}
use Rattle.std.specs.List.{position_or_len}
use Rattle.std.proofs.lemmas.List.Recursion.{is_position_or_len}
use lib.Seq.{length-take-le, get_or-set_same, get_or-set_other, take-suc-set}
use lib.Dec.{eqb, ltb}
use borrow.Author.Tests.{eq-eqb, eqb-true, eqb-false, lt-ltb, le-ltb, ltb-true, ltb-false}
use Rattle.dwarf.specs.declared.RuleCache.{RuleCache}
use Rattle.dwarf.specs.Dwarf.{Seen, never, seen, differs, remembered}
use Rattle.dwarf.specs.Cache.{first_in, place_of, lookup, newly}
use Rattle.dwarf.proofs.Places.{first_le, first_holds, first_front, first_tail}

pub seen_at : (c : RuleCache) (r p : ℕ) → place_of c r ≡ p → p < c.count → lookup c r ≡ seen (get_or c.kind p 0) (get_or c.value p 0)
unfolding lookup
seen_at c r p e h = simp (e, lt-ltb p c.count h)

pub seen_not : (c : RuleCache) (r : ℕ) → c.count ≤ place_of c r → lookup c r ≡ never
unfolding lookup
seen_not c r h = simp (le-ltb (place_of c r) c.count h)

-- two registers at one place are one
apart : (c : RuleCache) (q r : ℕ) → c.count ≤ length c.register → place_of c r < c.count → place_of c q ≡ place_of c r → r ≡ q
apart c q r fits h e =
    let long : length (take c.count c.register) ≡ c.count = length-take-le c.count c.register fits in
    sym (first_holds (take c.count c.register) r (omega arith))
    ∙ ap (λ (i : ℕ). get_or (take c.count c.register) i 0) (sym e)
    ∙ first_holds (take c.count c.register) q (omega arith)

-- another rule is stored at the register's place
pub replaced : (c : RuleCache) (r k v : ℕ) (w : c.count ≤ 64) → c.count ≤ length c.register → c.count ≤ length c.kind → c.count ≤ length c.value → place_of c r < c.count
    → (q : ℕ) → lookup (record { register = c.register; kind = set c.kind (place_of c r) k; value = set c.value (place_of c r) v; count = c.count; few = w }) q
    ≡ cond (eqb r q) (seen k v) (lookup c q)
unfolding lookup
replaced c r k v w fr fk fv h q = go (eqb r q) refl
  where
    go : (b : Bool) → eqb r q ≡ b
        → lookup (record { register = c.register; kind = set c.kind (place_of c r) k; value = set c.value (place_of c r) v; count = c.count; few = w }) q
        ≡ cond b (seen k v) (lookup c q)
    go true e = simp (← eqb-true r q e, lt-ltb (place_of c r) c.count h, get_or-set_same c.kind (place_of c r) k 0 (omega arith), get_or-set_same c.value (place_of c r) v 0 (omega arith))
    go false e =
        let ne : place_of c q ≡ place_of c r → ⊥ = λ x. eqb-false r q e (apart c q r fr h x) in
        simp (get_or-set_other c.kind (place_of c r) (place_of c q) k 0 ne, get_or-set_other c.value (place_of c r) (place_of c q) v 0 ne)

-- a register that was not there is stored past the others
abbrev pub grown : (c : RuleCache) → ℕ → ℕ → ℕ → c.count + 1 ≤ 64 → RuleCache
grown c r k v w = record { register = set c.register c.count r; kind = set c.kind c.count k; value = set c.value c.count v; count = c.count + 1; few = w }

module _ (c : RuleCache) (r k v : ℕ) (w : c.count + 1 ≤ 64) (fr : c.count < length c.register) (fk : c.count < length c.kind) (fv : c.count < length c.value)
    (new : place_of c r ≡ c.count) where
  front : List ℕ
  front = take c.count c.register

  front_long : length front ≡ c.count
  unfolding front
  front_long = length-take-le c.count c.register (omega arith)

  grown_registers : take (c.count + 1) (set c.register c.count r) ≡ front ++ (r ∷ [])
  unfolding front
  grown_registers = rw (add-one, take-suc-set)

  place_same : place_of (grown c r k v w) r ≡ c.count
  unfolding front first_in
  place_same = rw grown_registers (first_tail front (r ∷ []) r (new ∙ sym front_long) ∙ simp (eq-eqb r r refl) (omega (arith, front_long)))

  place_old : (q : ℕ) → place_of c q < c.count → place_of (grown c r k v w) q ≡ place_of c q
  unfolding front
  place_old q h = rw grown_registers (first_front front (r ∷ []) q (omega (arith, front_long)))

  place_none : (q : ℕ) → eqb r q ≡ false → c.count ≤ place_of c q → place_of (grown c r k v w) q ≡ c.count + 1
  unfolding front first_in
  place_none q e h = rw grown_registers (first_tail front (r ∷ []) q (omega (arith, first_le front q, front_long)) ∙ simp e (omega (arith, front_long)))

  seen_old : (q : ℕ) → place_of c q < c.count → lookup (grown c r k v w) q ≡ lookup c q
  unfolding lookup
  seen_old q h =
      let ne : place_of c q ≡ c.count → ⊥ = λ x. omega arith in
      simp (
        place_old q h,
        get_or-set_other c.kind c.count (place_of c q) k 0 ne,
        get_or-set_other c.value c.count (place_of c q) v 0 ne,
        lt-ltb (place_of c q) c.count h,
        lt-ltb (place_of c q) (c.count + 1) (omega arith),
      )

  seen_none : (q : ℕ) → eqb r q ≡ false → c.count ≤ place_of c q → lookup (grown c r k v w) q ≡ lookup c q
  seen_none q e h = seen_not (grown c r k v w) q (omega (arith, place_none q e h)) ∙ sym (seen_not c q h)

  pub appended : (q : ℕ) → lookup (grown c r k v w) q ≡ cond (eqb r q) (seen k v) (lookup c q)
  appended q = go (eqb r q) refl (ltb (place_of c q) c.count) refl
    where
      go : (b : Bool) → eqb r q ≡ b → (b' : Bool) → ltb (place_of c q) c.count ≡ b' → lookup (grown c r k v w) q ≡ cond b (seen k v) (lookup c q)
      go true e _ _ = ap (lookup (grown c r k v w)) (sym (eqb-true r q e)) ∙ seen_at (grown c r k v w) r c.count place_same (omega arith)
          ∙ simp (get_or-set_same c.kind c.count k 0 fk, get_or-set_same c.value c.count v 0 fv)
      go false e true e' = seen_old q (ltb-true (place_of c q) c.count e')
      go false e false e' = seen_none q e (ltb-false (place_of c q) c.count e')

-- ---- what the search for a register's place gives

place_is : (c : RuleCache) (r : ℕ) → place_of c r ≡ position_or_len (λ x. eqb x r) (take c.count c.register)
unfolding first_in
place_is c r = is_position_or_len (λ l. first_in l r) (λ x. eqb x r) refl (λ x l. ap (λ n. cond (eqb x r) 0 n) (omega arith)) (take c.count c.register)

module _ (c : RuleCache) (r : ℕ) (fits : c.count ≤ length c.register) where
  searched : position (λ x. eqb x r) (take c.count c.register) ≡ cond (ltb (place_of c r) c.count) (Some (place_of c r)) None
  searched = rw (← place_is c r, length-take-le c.count c.register fits)

  pub found : {q : ℕ} → Some q ≡ position (λ x. eqb x r) (take c.count c.register) → (place_of c r ≡ q) × (q < c.count)
  found {q} e = go (ltb (place_of c r) c.count) refl (e ∙ searched)
    where
      go : (b : Bool) → ltb (place_of c r) c.count ≡ b → Some q ≡ cond b (Some (place_of c r)) None → (place_of c r ≡ q) × (q < c.count)
      go true t i = let z : place_of c r ≡ q = cc in (z, omega (arith, ltb-true (place_of c r) c.count t))
      go false t i = absurd (cc)

  pub not_found : None ≡ position (λ x. eqb x r) (take c.count c.register) → place_of c r ≡ c.count
  not_found e = go (ltb (place_of c r) c.count) refl (e ∙ searched)
    where
      go : (b : Bool) → ltb (place_of c r) c.count ≡ b → ◌≡◌ {A = Option ℕ} None (cond b (Some (place_of c r)) None) → place_of c r ≡ c.count
      go true t i = absurd (cc)
      go false t i = omega (arith, ltb-false (place_of c r) c.count t, first_le (take c.count c.register) r, length-take-le c.count c.register fits)

-- what the code stores
module _ (c : RuleCache) (r k v : ℕ) (lr : length c.register ≡ 64) (lk : length c.kind ≡ 64) (lv : length c.value ≡ 64) where
  pub replaced_at : {q : ℕ} (w : c.count ≤ 64) → place_of c r ≡ q → q < c.count
      → lookup (record { register = c.register; kind = set c.kind q k; value = set c.value q v; count = c.count; few = w }) ≡ remembered (lookup c) r k v
  replaced_at {q} w e h = rw (← e) (fun_ext (replaced c r k v w (omega arith) (omega arith) (omega arith) (omega arith)))

  pub appended_at : (w : c.count + 1 ≤ 64) → place_of c r ≡ c.count → lookup (grown c r k v w) ≡ remembered (lookup c) r k v
  appended_at w e = fun_ext (appended c r k v w (omega arith) (omega arith) (omega arith) e)

-- ---- whether a rule differs

pub differs_at : (c : RuleCache) (r q k v : ℕ) → place_of c r ≡ q → q < c.count → differs (seen (get_or c.kind q 0) (get_or c.value q 0)) k v ≡ differs (lookup c r) k v
differs_at c r q k v e h = sym (ap (λ (l : Seen). differs l k v) (seen_at c r q e h))

pub differs_new : (c : RuleCache) (r k v : ℕ) → place_of c r ≡ c.count → true ≡ differs (lookup c r) k v
differs_new c r k v h = sym (ap (λ (l : Seen). differs l k v) (seen_not c r (omega arith)))

-- a register that is there takes no place more, another one
pub newly_at : (c : RuleCache) (r q : ℕ) → place_of c r ≡ q → q < c.count → newly (lookup c r) ≡ 0
newly_at c r q e h = ap newly (seen_at c r q e h)

pub newly_not : (c : RuleCache) (r : ℕ) → place_of c r ≡ c.count → newly (lookup c r) ≡ 1
newly_not c r h = ap newly (seen_not c r (omega arith))
