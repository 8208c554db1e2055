-- The encoder as the code steps it. Proved below: after an operation it holds, writes and tests what the definitions say, and its numbers stay in range.
use Rattle.std.specs.Prelude.{◌≡◌, refl, ℕ, ◌+◌, ◌^◌, ◌≤◌, ◌<◌, Bool, true, false, cond, ◌&&◌, List, ◌++◌, pos, T, ltb}
use Rattle.std.proofs.Common.{arith, ltb→lt, leb→le}
use Rattle.std.proofs.Props.{props}
use Rattle.std.proofs.Math.IntN.{sub_ℕ}
use Rattle.text.specs.Tests.{and_l, and_r}
use Rattle.lines.specs.Reach.{inside}
use Rattle.arm64.specs.declared.Op.{Op}
use Rattle.arm64.specs.declared.Op.TheVariants.{AllocStack, SaveReg, SaveRegPreindexed, SaveRegPair, SaveRegPairPreindexed, SaveLrPair, SaveNext, Other, End, Undecodable}
use Rattle.arm64.specs.declared.Saved.{Saved}
use Rattle.arm64.specs.declared.Saves.{Saves}
use Rattle.arm64.specs.declared.Saves.TheVariants.{Nothing, Alone, Paired}
use Rattle.arm64.specs.declared.BreakpadEncoder.{BreakpadEncoder}
use Rattle.arm64.specs.Arm64.{width, above, saved, growth_of, writes_cfa, pair_from, saves, no_pair, last_after}
use Rattle.arm64.specs.Arm64.{cfa_text, given, saves_text, op_text, value_of, saved_fits, saves_fit, fits}
use Rattle.arm64.specs.Index.{inside_bound}

-- ---- its state

-- the state with T and p, after an operation that writes the CFA or not and saves s
unfoldable pub encoder : ℕ → Saved → Bool → Saves → BreakpadEncoder
encoder T p cfa s = record { stack_size = T; last = p; cfa_touched = cfa; saves = s }

-- before the first operation
unfoldable pub start_encoder : BreakpadEncoder
start_encoder = encoder 0 no_pair false Nothing

-- after an operation
unfoldable pub stepped : BreakpadEncoder → Op → BreakpadEncoder
stepped e o = encoder (e.stack_size + growth_of o) (last_after e.stack_size e.last o) (writes_cfa o) (saves e.stack_size e.last o)

-- what to unfold where the methods' states are to be seen to be those of the definitions
unfoldable pub Encoder·open : Type 0
unfolding growth_of writes_cfa saves last_after encoder start_encoder stepped
Encoder·open = Unit {0}

-- ---- its text

-- what the operation just run writes
unfoldable pub step_text : BreakpadEncoder → List ℕ
step_text e = given e.cfa_touched (cfa_text e.stack_size) ++ saves_text e.saves

encoder_text : (T : ℕ) (p : Saved) (cfa : Bool) (s : Saves) → step_text (encoder T p cfa s) ≡ given cfa (cfa_text T) ++ saves_text s
unfolding encoder step_text
encoder_text T p cfa s = refl

pub step_text_lem : (e : BreakpadEncoder) (o : Op) → step_text (stepped e o) ≡ op_text e.stack_size e.last o
unfolding encoder stepped step_text op_text
step_text_lem e o = refl

-- ---- its test

-- the value used and what the operation just run has left, on a line at this address
unfoldable pub line_fits : ℕ → ℕ → BreakpadEncoder → Bool
line_fits address v e = ltb v (2 ^ 31) && (inside (pos e.stack_size) && (saves_fit e.saves && ltb address (2 ^ 32)))

pub step_fits : (address : ℕ) (e : BreakpadEncoder) (o : Op) → line_fits address (value_of o) (stepped e o) ≡ fits address e.stack_size e.last o
unfolding encoder stepped line_fits fits
step_fits address e o = refl

-- an operation in reach, and the state after it
pub record Steps (address : ℕ) (e : BreakpadEncoder) (o : Op) (e' : BreakpadEncoder) : Type 0 where
  pub fits_is : fits address e.stack_size e.last o ≡ true
  pub state_is : e' ≡ stepped e o

-- ---- its numbers

-- a register and a place that the code's sums can hold
pub record Near (p : Saved) : Type 0 where
  pub register : p.register < 256
  pub up : p.a < 2 ^ 33
  pub down : p.b < 2 ^ 32

-- each that is saved
abbrev pub EachNear : Saves → Type 0
EachNear Nothing = Unit {0}
EachNear (Alone p) = Near p
EachNear (Paired p q) = Near p × Near q

pub EachNear-prop : (s : Saves) → IsProp (EachNear s)
EachNear-prop Nothing = Prim.hlevel props
EachNear-prop (Alone p) = Prim.hlevel props
EachNear-prop (Paired p q) = Prim.hlevel props

-- a state whose total, registers and places are such
pub record Small (e : BreakpadEncoder) : Type 0 where
  pub total : e.stack_size < 2 ^ 31
  pub last : Near e.last
  pub saved : EachNear e.saves

pub width_small : (l : ℕ) → width l ≤ 16
unfolding width
width_small l = go (ltb l 2)
  where
    go : (t : Bool) → cond t 8 16 ≤ 16
    go true = omega arith
    go false = omega arith

near_none : Near no_pair
near_none = record { register = omega arith; up = omega arith; down = omega arith }

pub small_start : Small start_encoder
unfolding encoder start_encoder
small_start = record { total = omega arith; last = near_none; saved = tt }

near : (p : Saved) → T (saved_fits p) → p.b < 2 ^ 32 → Near p
unfolding saved_fits
near p h k = record {
  register = omega (arith, leb→le p.register 255 (and_r (inside (sub_ℕ p.a p.b)) _ h));
  up = omega (arith, inside_bound p.a p.b (and_l (inside (sub_ℕ p.a p.b)) _ h));
  down = k;
}

-- a pair, and so its second
pair_near : (p : Saved) → T (saves_fit (pair_from p)) → p.b < 2 ^ 32 → EachNear (pair_from p) × Near (above p)
unfolding above saves_fit
pair_near p h k =
    let q : Near (above p) = near (above p) (and_r (saved_fits p) _ h) k in
    ((near p (and_l (saved_fits p) _ h) k, q), q)

-- what an operation saves, and the last pair after it
step_near : (t : ℕ) (p : Saved) (o : Op) → t < 2 ^ 31 → Near p → value_of o < 2 ^ 31 → T (saves_fit (saves t p o)) → EachNear (saves t p o) × Near (last_after t p o)
unfolding above saves last_after value_of saves_fit
step_near t p (AllocStack v) h n k f = (tt, n)
step_near t p (SaveReg l r v) h n k f = (near (saved l r v t) f (omega arith), n)
step_near t p (SaveRegPreindexed l r v) h n k f = (near (saved l r 0 (t + v)) f (omega arith), n)
step_near t p (SaveRegPair l r v) h n k f = pair_near (saved l r v t) f (omega arith)
step_near t p (SaveRegPairPreindexed l r v) h n k f = pair_near (saved l r 0 (t + v)) f (omega arith)
step_near t p (SaveLrPair r v) h n k f =
    let x : Saved = saved 0 r v t in
    ((near x (and_l (saved_fits x) _ f) (omega arith), near (saved 0 30 (v + 8) t) (and_r (saved_fits x) _ f) (omega arith)), n)
step_near t p SaveNext h n k f = pair_near (above p) f n.down
step_near t p Other h n k f = (tt, n)
step_near t p End h n k f = (tt, n)
step_near t p Undecodable h n k f = (tt, n)

-- an operation whose line is in reach keeps all numbers in range
pub line_bounds : (address : ℕ) (e : BreakpadEncoder) (o : Op) → e.stack_size < 2 ^ 31 → Near e.last → T (fits address e.stack_size e.last o) → Small (stepped e o)
unfolding inside fits encoder stepped
line_bounds address e o s l h =
    let v : T (ltb (value_of o) (2 ^ 31)) = search and_l in
    let t : T (ltb (e.stack_size + growth_of o) (2 ^ 31)) = search (and_l, and_r) in
    let f : T (saves_fit (saves e.stack_size e.last o)) = search (and_l, and_r) in
    let n = step_near e.stack_size e.last o s l (ltb→lt (value_of o) (2 ^ 31) v) f in
    record { total = ltb→lt (e.stack_size + growth_of o) (2 ^ 31) t; last = n.1; saved = n.0 }
