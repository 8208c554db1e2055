-- What holds at each turn of the two loops that run the operations: what is left from here gives what all gives.
use mathlib.Core.Path.{◌≡◌, refl}
use Prim.Native.Nat.{ℕ, suc, ◌+◌, ◌*◌}
use native.Mathlib.Numerals.{add-one}
use mathlib.Core.Bool.{Bool, true, false, ◌&&◌}
use mathlib.Core.List.{List}
use lib.Dec.{T}
use lib.ListN.{length}
use Rattle.std.proofs.lemmas.List.{nil_from_length}
use Rattle.std.specs.Prelude.{Option, None, Some, MatchOption, IsSome}
use Rattle.std.specs.List.{push}
use Rattle.text.specs.Text.{Put, Left}
use Rattle.text.specs.Text.Laws.{left_put, left_none}
use Rattle.text.specs.Tests.{and_l, and_r}
use Rattle.arm64.specs.declared.BreakpadEncoder.{BreakpadEncoder}
use Rattle.arm64.specs.Arm64.{defaults_text, writes_ra, nth_line, run, fits, in_reach}
use Rattle.arm64.specs.Encoder.{encoder, stepped, Steps, step_text, step_text_lem}
use Rattle.arm64.specs.Index.{op_at, ops_run, ops_push}

-- ---- the first pass: is every number in reach

pub record ScanLeft (a : ℕ) (z : Bool) (e : BreakpadEncoder) (i : ℕ) (os : List (List ℕ)) : Type 0 where
  pub rest : in_reach a i e.stack_size e.last (ops_run os) ≡ z

module _ {a : ℕ} {z : Bool} {e : BreakpadEncoder} {i : ℕ} {os : List (List ℕ)} (l : ScanLeft a z e i os)
    (left : List (List ℕ)) (w : List ℕ) (p : os ≡ push left w) where
  head : (fits (a + 4 * i) e.stack_size e.last (op_at w) && in_reach a (suc i) (stepped e (op_at w)).stack_size (stepped e (op_at w)).last (ops_run left)) ≡ z
  unfolding in_reach encoder stepped
  head = rw (p, ops_push left w) at l.rest

  pub scan_stop : fits (a + 4 * i) e.stack_size e.last (op_at w) ≡ false → false ≡ z
  scan_stop f = rw f at head

  pub scan_turn : {e' : BreakpadEncoder} → Steps (a + 4 * i) e (op_at w) e' → ScanLeft a z e' (i + 1) left
  scan_turn s = rw (s.state_is, add-one i) (record { rest = rw s.fits_is at head })

pub scan_done : {a : ℕ} {z : Bool} {e : BreakpadEncoder} {i : ℕ} {os : List (List ℕ)} → ScanLeft a z e i os → length os ≡ 0 → true ≡ z
unfolding in_reach ops_run
scan_done {os = os} l h = rw (nil_from_length os h) at l.rest

-- ---- the second: the lines

pub record LinesLeft (a z : ℕ) (d : List ℕ) (at : ℕ) (t d₁ : List ℕ) (p : ℕ) (e : BreakpadEncoder) (i : ℕ) (os : List (List ℕ)) : Type 0 where
  pub reach : T (in_reach a i e.stack_size e.last (ops_run os))
  pub text : Left d at t d₁ p (run a z i e.stack_size e.last (ops_run os))

module _ {a z : ℕ} {d : List ℕ} {at : ℕ} {t d₁ : List ℕ} {p : ℕ} {e : BreakpadEncoder} {i : ℕ} {os : List (List ℕ)} (l : LinesLeft a z d at t d₁ p e i os)
    (left : List (List ℕ)) (w : List ℕ) (q : os ≡ push left w) where
  reached : T (fits (a + 4 * i) e.stack_size e.last (op_at w) && in_reach a (suc i) (stepped e (op_at w)).stack_size (stepped e (op_at w)).last (ops_run left))
  unfolding in_reach encoder stepped
  reached = rw (q, ops_push left w) at l.reach

  line_fits : T (fits (a + 4 * i) e.stack_size e.last (op_at w))
  line_fits = and_l (fits (a + 4 * i) e.stack_size e.last (op_at w)) _ reached

  -- so there is a state after it
  pub some_state : {A : Type 0} (o : Option A) (P : A → Type 0) → MatchOption o (fits (a + 4 * i) e.stack_size e.last (op_at w) ≡ false) P → IsSome o
  some_state None P h = absurd (rw h at line_fits)
  some_state (Some x) P h = refl

  pub line_turn : {e' : BreakpadEncoder} → Steps (a + 4 * i) e (op_at w) e' → {d₂ : List ℕ} {r : ℕ}
      → Put d₁ p (nth_line a z i (step_text e') (defaults_text e'.cfa_touched (writes_ra e'.saves))) d₂ r → LinesLeft a z d at t d₂ r e' (i + 1) left
  unfolding run encoder stepped
  line_turn s x = rw (s.state_is, add-one i) (record {
    reach = and_r (fits (a + 4 * i) e.stack_size e.last (op_at w)) _ reached;
    text = left_put (rw (q, ops_push left w) at l.text) (rw (s.state_is, step_text_lem e (op_at w)) at x);
  })

pub lines_done : {a z : ℕ} {d : List ℕ} {at : ℕ} {t d₁ : List ℕ} {p : ℕ} {e : BreakpadEncoder} {i : ℕ} {os : List (List ℕ)}
    → LinesLeft a z d at t d₁ p e i os → length os ≡ 0 → Put d at t d₁ p
unfolding run ops_run
lines_done {os = os} l h = left_none (rw (nil_from_length os h) at l.text)
