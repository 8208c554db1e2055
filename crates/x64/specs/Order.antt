-- What does not depend on the order in which the infos of a chain are run (02, request 2): its total, and refusals 6 and 7. Skipping and
-- refusals 4 and 5 do not look at the chain. Document 01 ran infos first to last, as the Rust does.
use Rattle.std.specs.Prelude.{◌≡◌, refl, ℕ, ◌+◌, ◌^◌, ◌<◌, Bool, true, false, cond, ◌&&◌, List, [], ◌∷◌, ◌++◌, reverse, T, ltb}
use Rattle.std.proofs.Common.{sym, ◌∙◌, arith, add_assoc, append-nil, lt-ltb, le-ltb, ltb-true, ltb-false}
use Rattle.std.proofs.Math.Bool.{and-true, and-false, and_assoc, and_comm}
use Rattle.text.specs.Tests.{all}
use Rattle.entry.specs.Entry.{word}
use Rattle.x64.specs.declared.Op.{Op}
use Rattle.x64.specs.X64.{base_at, stored, infos, in_order, info_count, chain, growth_of, value_of, total, x64_layout, in_reach, is_set, set_count}
use Rattle.x64.specs.Index.{tally, growths, reaches, offset_ok, reach_is, chain_ok, chain_reach}

-- ---- the order of document 01

-- infos first to last, each backwards
unfoldable pub part_first : List (List Op) → List Op
part_first [] = []
part_first (os ∷ rest) = reverse os ++ part_first rest

-- all operations of a body in that order
unfoldable pub chain01 : List ℕ → List Op
chain01 ws = part_first (infos ws (info_count ws) 4)

-- a body of one info runs as it did
pub one_info : (ws : List ℕ) → info_count ws ≡ 1 → chain ws ≡ chain01 ws
unfolding chain chain01 infos in_order part_first
one_info ws h = rw h (sym (append-nil (reverse (stored ws (base_at ws 4) 7 (word ws 6)))))

-- ---- sums and tests over all operations are the same in both orders

tally_append : (f : Op → ℕ) (xs ys : List Op) → tally f (xs ++ ys) ≡ tally f xs + tally f ys
unfolding tally
tally_append f [] ys = omega arith
tally_append f (x ∷ xs) ys = rw (tally_append f xs ys) (omega arith)

tally_turned : (f : Op → ℕ) (is : List (List Op)) → tally f (in_order is) ≡ tally f (part_first is)
unfolding in_order part_first
tally_turned f [] = refl
tally_turned f (os ∷ rest) = rw (tally_append f (in_order rest) (reverse os), tally_append f (reverse os) (part_first rest), tally_turned f rest) (omega arith)

tally_kept : (f : Op → ℕ) (ws : List ℕ) → tally f (chain ws) ≡ tally f (chain01 ws)
unfolding chain chain01
tally_kept f ws = tally_turned f (infos ws (info_count ws) 4)

all_both : (p : Op → Bool) (xs ys : List Op) → all p (xs ++ ys) ≡ (all p xs && all p ys)
all_both p [] ys = refl
all_both p (x ∷ xs) ys = rw (all_both p xs ys) (sym (and_assoc (p x) (all p xs) (all p ys)))

all_turned : (p : Op → Bool) (is : List (List Op)) → all p (in_order is) ≡ all p (part_first is)
unfolding in_order part_first
all_turned p [] = refl
all_turned p (os ∷ rest) =
    rw (all_both p (in_order rest) (reverse os), all_both p (reverse os) (part_first rest), all_turned p rest) (and_comm (all p (part_first rest)) (all p (reverse os)))

all_kept : (p : Op → Bool) (ws : List ℕ) → all p (chain ws) ≡ all p (chain01 ws)
unfolding chain chain01
all_kept p ws = all_turned p (infos ws (info_count ws) 4)

-- ---- the total

total_is : (S : ℕ) (os : List Op) → total S os ≡ S + growths os
unfolding total tally
total_is S [] = omega arith
total_is S (o ∷ os) = total_is (S + growth_of o) os ∙ (omega arith)

-- 02, request 2: each chain's final total is unaffected
pub total_kept : (ws : List ℕ) → total 8 (chain ws) ≡ total 8 (chain01 ws)
total_kept ws = rw (total_is 8 (chain ws), total_is 8 (chain01 ws), tally_kept growth_of ws)

-- ---- refusal 6

-- a value below 2^31
abbrev small : Op → Bool
small o = ltb (value_of o) (2 ^ 31)

-- totals only grow: all are in reach where the last one is
reaches_last : (S : ℕ) (os : List Op) → S < 2 ^ 31 → reaches S os ≡ (all small os && ltb (S + growths os) (2 ^ 31))
unfolding reaches tally
reaches_last S [] h = let e : S + 0 ≡ S = omega arith in rw (e, lt-ltb S (2 ^ 31) h)
reaches_last S (o ∷ os) h = go (ltb (S + growth_of o) (2 ^ 31)) refl (reaches_last (S + growth_of o) os)
  where
    go : (b : Bool) → ltb (S + growth_of o) (2 ^ 31) ≡ b
        → (S + growth_of o < 2 ^ 31 → reaches (S + growth_of o) os ≡ (all small os && ltb (S + growth_of o + growths os) (2 ^ 31)))
        → ((small o && b) && reaches (S + growth_of o) os) ≡ ((small o && all small os) && ltb (S + (growth_of o + growths os)) (2 ^ 31))
    go true e r = rw (and-true (small o), r (ltb-true (S + growth_of o) (2 ^ 31) e), add_assoc S (growth_of o) (growths os))
        (sym (and_assoc (small o) (all small os) (ltb (S + (growth_of o + growths os)) (2 ^ 31))))
    go false e r = rw (
      and-false (small o),
      le-ltb (S + (growth_of o + growths os)) (2 ^ 31) (omega (arith, ltb-false (S + growth_of o) (2 ^ 31) e)),
      and-false (small o && all small os),
    )

-- 02, request 2: refusal 6 is unaffected
pub reach_kept : (ws : List ℕ) → T (x64_layout ws) → in_reach 8 (chain ws) ≡ in_reach 8 (chain01 ws)
reach_kept ws l =
    let ok : T (all offset_ok (chain01 ws)) = rw (← all_kept offset_ok ws) (chain_ok ws l) in
    sym (chain_reach ws l) ∙ reaches_last 8 (chain ws) (omega arith)
    ∙ (rw (all_kept small ws, tally_kept growth_of ws) (sym (reaches_last 8 (chain01 ws) (omega arith)))) ∙ reach_is 8 (chain01 ws) (omega arith) ok

-- ---- refusal 7

sets_is : (os : List Op) → set_count os ≡ tally (λ o. cond (is_set o) 1 0) os
unfolding set_count tally
sets_is [] = refl
sets_is (o ∷ os) = rw (sets_is os)

-- 02, request 2: refusal 7 is unaffected
pub sets_kept : (ws : List ℕ) → set_count (chain ws) ≡ set_count (chain01 ws)
sets_kept ws = rw (sets_is (chain ws), sets_is (chain01 ws), tally_kept (λ o. cond (is_set o) 1 0) ws)
