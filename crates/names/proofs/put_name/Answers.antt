-- `put_name`: one more byte is put; at the end nothing is left.
use Rattle.std.proofs.Common.{arith, rules, refl, add-one, ◌≡◌, ◌<◌, ℕ, zero, suc, List, [], ◌∷◌, ◌++◌, take, length}
use Rattle.text.specs.Text.Laws.{left_all, left_put, left_as, left_none}
use Rattle.names.specs.Names.{name_text}
use Rattle.names.proofs.put_name.Goals as goal

pub loop-b-init : goal.loop-b-init
unfolding name_text
loop-b-init c = left_as (left_all (omega arith) (omega arith)) (search rules)

take_none : (n : ℕ) (l : List ℕ) → (0 < n → length l ≡ 0) → take n l ≡ []
take_none zero l h = refl
take_none (suc n) [] h = refl
take_none (suc n) (b ∷ l) h = absurd (omega (arith, h (omega arith)))

pub loop-b-preserved : goal.loop-b-preserved
loop-b-preserved c =
    let s = c.in-Some.ensures.steps in
    let e : take c.loop-b.b-iterator.n c.loop-b.b-iterator.iter.rest.now ≡ (c.in-Some.b.now ∷ []) ++ take c.next.new.self.n c.next.new.self.iter.rest.now = rw (s.0, ← s.1, add-one) refl in
    left_put (left_as c.loop-b.invariant e) c.put_byte-p.ensures

pub returns : goal.returns
returns c =
    let e : take c.loop-b.b-iterator.n c.loop-b.b-iterator.iter.rest.now ≡ [] = take_none c.loop-b.b-iterator.n c.loop-b.b-iterator.iter.rest.now (λ h. (c.in-None.ensures.steps h).0) in
    left_none (left_as c.loop-b.invariant e)
