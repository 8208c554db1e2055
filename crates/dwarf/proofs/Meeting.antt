-- The registers met in a body: what a store does to them, and what holds at each turn of the loops that meet them.
use mathlib.Core.Path.{◌≡◌, refl, sym, ap, ap₂, ◌∙◌}
use Prim.Native.Nat.{ℕ, ◌+◌, ◌≤◌}
use native.Mathlib.Numerals.{add-one}
use native.Mathlib.Omega.{arith}
use mathlib.Core.Bool.{Bool, true, false, cond, ◌||◌}
use mathlib.Core.List.{List, [], ◌∷◌, ◌++◌, append-nil}
use lib.ListN.{length, take, set}
use lib.Seq.{take-suc-set}
use lib.Dec.{leb, eqb}
use borrow.Author.Tests.{eqb-true, lt-leb, le-leb, leb-false}
use Rattle.std.specs.List.{list_any}
use Rattle.dwarf.specs.declared.RegisterRule.{RegisterRule}
use Rattle.dwarf.specs.declared.Registers.{Registers}
use Rattle.dwarf.specs.Dwarf.{Row, registers, member, distinct, rules_of}
use Rattle.dwarf.specs.Cache.{held, Known}

-- ---- lists of registers

-- of those met it counts only which they are
distinct_same : (ms ns rs : List ℕ) → ((q : ℕ) → member q ms ≡ member q ns) → distinct ms rs ≡ distinct ns rs
unfolding distinct member
distinct_same ms ns [] h = refl
distinct_same ms ns (r ∷ rs) h =
    ap₂ (λ (t : Bool) (n : ℕ). cond t 0 1 + n) (h r) (distinct_same (r ∷ ms) (r ∷ ns) rs (λ q. ap (λ (t : Bool). eqb r q || t) (h q)))

distinct_more : (ms xs ys : List ℕ) → distinct ms xs ≤ distinct ms (xs ++ ys)
unfolding distinct
distinct_more ms [] ys = omega arith
distinct_more ms (x ∷ xs) ys = omega (arith, distinct_more (x ∷ ms) xs ys)

registers_append : (xs ys : List RegisterRule) → registers (xs ++ ys) ≡ registers xs ++ registers ys
unfolding registers
registers_append [] ys = refl
registers_append (x ∷ xs) ys = ap (λ (l : List ℕ). x.register ∷ l) (registers_append xs ys)

member_snoc : (q r : ℕ) (l : List ℕ) → member q (l ++ (r ∷ [])) ≡ (eqb r q || member q l)
unfolding member
member_snoc q r [] = refl
member_snoc q r (x ∷ l) = ap (λ (t : Bool). eqb x q || t) (member_snoc q r l) ∙ go (eqb x q) (eqb r q)
  where
    go : (t u : Bool) → (t || (u || member q l)) ≡ (u || (t || member q l))
    go true true = refl
    go true false = refl
    go false u = refl

-- what the code asks of them
pub any_member : (r : ℕ) (l : List ℕ) → list_any (λ q. eqb q r) l ≡ member r l
unfolding member
any_member r [] = refl
any_member r (x ∷ l) = ap (λ (t : Bool). eqb x r || t) (any_member r l)

-- one that is among them adds nothing
distinct_met : (r : ℕ) (met ys : List ℕ) → member r met ≡ true → distinct (r ∷ met) ys ≡ distinct met ys
unfolding member
distinct_met r met ys e = distinct_same (r ∷ met) met ys (λ q. go q (eqb r q) refl)
  where
    go : (q : ℕ) (t : Bool) → eqb r q ≡ t → (t || member q met) ≡ member q met
    go q true g = sym e ∙ ap (λ (k : ℕ). member k met) (eqb-true r q g)
    go q false g = refl

-- ---- register r met behind the registers c

no : false ≡ true → ⊥
no e = let y : ◌≡◌ {A = ℕ} 0 1 = cc in omega arith

module _ (c : Registers) (r : ℕ) where
  pub met_before : member r (held c) ≡ true → Known c (r ∷ []) c true
  unfolding distinct
  met_before e = record {
    tells = rw e (sym (le-leb (c.count + 0) 64 (omega (arith, c.few))));
    counts = λ _ ys. rw e (ap (λ (n : ℕ). c.count + n) (sym (distinct_met r (held c) ys e) ∙ omega arith));
  }

  pub met_none : {d : Registers} → member r (held c) ≡ false → c.count ≡ 64 → Known c (r ∷ []) d false
  unfolding distinct
  met_none e f = record { tells = rw (e, f); counts = λ z. absurd (no z) }

  pub met_new : (w : c.count + 1 ≤ 64) → length c.number ≡ 64 → member r (held c) ≡ false
      → Known c (r ∷ []) (record { number = set c.number c.count r; count = c.count + 1; few = w }) true
  unfolding distinct member
  met_new w long e = record {
    tells = rw e (sym (le-leb (c.count + 1) 64 w));
    counts = λ _ ys. rw (e, add-one, take-suc-set c.number c.count r (omega arith))
        (omega (arith, distinct_same (held c ++ (r ∷ [])) (r ∷ held c) ys (λ q. member_snoc q r (held c))));
  }

-- ---- over a row's rules: of the registers all, behind c₀, rs are left behind c

pub record MeetLeft (c₀ : Registers) (all : List ℕ) (c : Registers) (rs : List ℕ) : Type 0 where
  pub counts : (ys : List ℕ) → c.count + distinct (held c) (rs ++ ys) ≡ c₀.count + distinct (held c₀) (all ++ ys)

module _ {c₀ : Registers} {all : List ℕ} {c : Registers} {rs : List ℕ} where
  pub meet_turn : {r : ℕ} {ss : List ℕ} {d : Registers} → MeetLeft c₀ all c rs → rs ≡ r ∷ ss → Known c (r ∷ []) d true → MeetLeft c₀ all d ss
  meet_turn {r} {ss} {d} l i k = record { counts = λ ys. k.counts refl (ss ++ ys) ∙ (rw i at (l.counts ys)) }

  -- no room for the next one: no room for all
  pub meet_over : {r : ℕ} {ss : List ℕ} {d : Registers} → MeetLeft c₀ all c rs → rs ≡ r ∷ ss → Known c (r ∷ []) d false → Known c₀ all d false
  meet_over {r} {ss} {d} l i k =
      let e = rw (i, append-nil, append-nil) at (l.counts []) in
      record {
        tells = sym (lt-leb (c₀.count + distinct (held c₀) all) 64 (omega (
          arith,
          leb-false (c.count + distinct (held c) (r ∷ [])) 64 (sym k.tells),
          distinct_more (held c) (r ∷ []) ss,
        )));
        counts = λ z. absurd (no z);
      }

  pub meet_done : MeetLeft c₀ all c rs → rs ≡ [] → Known c₀ all c true
  unfolding distinct
  meet_done l i =
      let e = rw (i, append-nil) at (l.counts []) in
      record { tells = sym (le-leb (c₀.count + distinct (held c₀) all) 64 (omega (arith, c.few))); counts = λ _ ys. rw i at (l.counts ys) }

-- ---- over all rows: of all, xs are left

pub record MetLeft (all : List Row) (c : Registers) (xs : List Row) : Type 0 where
  pub counts : c.count + distinct (held c) (registers (rules_of xs)) ≡ distinct [] (registers (rules_of all))

pub met_all : {all : List Row} {c : Registers} → c.count ≡ 0 → MetLeft all c all
met_all {all} {c} e = record { counts = ap (λ (n : ℕ). n + distinct (take n c.number) (registers (rules_of all))) e ∙ omega arith }

module _ {all : List Row} {c : Registers} {xs : List Row} where
  next_met : {w : Row} {ys : List Row} → MetLeft all c xs → xs ≡ w ∷ ys
      → c.count + distinct (held c) (registers w.rules ++ registers (rules_of ys)) ≡ distinct [] (registers (rules_of all))
  unfolding rules_of
  next_met {w} {ys} l i = ap (λ (n : List ℕ). c.count + distinct (held c) n) (sym (registers_append w.rules (rules_of ys))) ∙ (rw i at l.counts)

  -- more than 64 with a row: more than 64 in all
  pub met_over : {w : Row} {ys : List Row} {d : Registers} → MetLeft all c xs → xs ≡ w ∷ ys → Known c (registers w.rules) d false
      → false ≡ leb (distinct [] (registers (rules_of all))) 64
  met_over {w} {ys} l i k = sym (lt-leb (distinct [] (registers (rules_of all))) 64 (omega (
    arith,
    next_met l i,
    distinct_more (held c) (registers w.rules) (registers (rules_of ys)),
    leb-false (c.count + distinct (held c) (registers w.rules)) 64 (sym k.tells),
  )))

  pub met_turn : {w : Row} {ys : List Row} {d : Registers} → MetLeft all c xs → xs ≡ w ∷ ys → Known c (registers w.rules) d true → MetLeft all d ys
  met_turn {w} {ys} l i k = record { counts = k.counts refl (registers (rules_of ys)) ∙ next_met l i }

  pub met_done : MetLeft all c xs → xs ≡ [] → true ≡ leb (distinct [] (registers (rules_of all))) 64
  unfolding rules_of registers distinct
  met_done l i = let e = rw i at l.counts in sym (le-leb (distinct [] (registers (rules_of all))) 64 (omega (arith, c.few)))
