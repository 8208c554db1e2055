-- What a first pass says of a chain: its steps, its CFA and machine frames, and refusals 6 and 7.
use Rattle.std.specs.Prelude.{◌≡◌, ℕ, ◌+◌, ◌^◌, ◌≤◌, ◌<◌, Bool, true, false, cond, ◌&&◌, ◌||◌, List, [], ◌∷◌, ◌++◌, T, ltb, Option, None, Some, IfSome}
use Rattle.std.specs.Option.{is_some, unwrap_or, option_and_then}
use Rattle.std.proofs.Common.{refl, sym, ap, ◌∙◌, arith, le-ltb, lt-ltb, ltb→lt}
use Rattle.text.specs.Tests.{is_true, and_r}
use Rattle.std.proofs.Math.Bool.{or-true, or-false}
use Rattle.refusal.specs.declared.Refusal.TheVariants.{Reach, Frame}
use Rattle.x64.specs.declared.Op.{Op}
use Rattle.x64.specs.declared.Op.TheVariants.{PushNonVolatile, Alloc, SaveRsp, SaveFp, SetFpRegister, PushMachineFrame, Other, Undecodable}
use Rattle.x64.specs.declared.Frame as F
use Rattle.x64.specs.declared.Scan.{Scan}
use Rattle.x64.specs.X64.{chain, growth_of, value_of, run, total, set_text, cfa_or, is_machine, any_machine, is_set, set_count, in_reach, x64_layout}
use Rattle.x64.specs.Index.{within, reaches, chain_reach, chain_refusal}
use Rattle.x64.specs.Scan.{scan_start, grown, framed, machined, advance, scan_step, scanned, cfa_by, cfa_of, Small}

-- ---- one step

-- after an operation in reach
abbrev after : Scan → Op → Scan
after s o = advance s o (s.total + growth_of o)

pub growth_small : (o : Op) → growth_of o ≤ value_of o + 48
unfolding growth_of value_of
growth_small (PushNonVolatile r) = omega arith
growth_small (Alloc v) = omega arith
growth_small (SaveRsp r v) = omega arith
growth_small (SaveFp r v b) = omega arith
growth_small (SetFpRegister b) = omega arith
growth_small (PushMachineFrame true) = omega arith
growth_small (PushMachineFrame false) = omega arith
growth_small Other = omega arith
growth_small Undecodable = omega arith

module _ (s : Scan) (o : Op) where
  pub step_value : 2 ^ 31 ≤ value_of o → None ≡ scan_step s o
  unfolding scan_step
  step_value k = rw (le-ltb (value_of o) (2 ^ 31) k)

  pub step_total : value_of o < 2 ^ 31 → 2 ^ 31 ≤ s.total + growth_of o → None ≡ scan_step s o
  unfolding scan_step
  step_total j k = rw (lt-ltb (value_of o) (2 ^ 31) j, le-ltb (s.total + growth_of o) (2 ^ 31) k)

  pub step_on : value_of o < 2 ^ 31 → s.total + growth_of o < 2 ^ 31 → Some (after s o) ≡ scan_step s o
  unfolding scan_step
  step_on j k = rw (lt-ltb (value_of o) (2 ^ 31) j, lt-ltb (s.total + growth_of o) (2 ^ 31) k)

  pub step_within : T (within s.total o) → scan_step s o ≡ Some (after s o)
  unfolding scan_step
  step_within w = rw (is_true (within s.total o) w)

  pub step_without : within s.total o ≡ false → scan_step s o ≡ None
  unfolding scan_step
  step_without w = rw w

module _ (s : Scan) (o : Op) (os : List Op) where
  pub step_none : scan_step s o ≡ None → scanned s (o ∷ os) ≡ None
  unfolding scan_step scanned
  step_none h = go (within s.total o) h
    where
      go : (t : Bool) → ◌≡◌ {A = Option Scan} (cond t (Some (after s o)) None) None → ◌≡◌ {A = Option Scan} (cond t (scanned (after s o) os) None) None
      go true k = cc
      go false k = refl

  pub step_some : (t : Scan) → scan_step s o ≡ Some t → scanned s (o ∷ os) ≡ scanned t os
  unfolding scan_step scanned
  step_some t h = go (within s.total o) h
    where
      go : (b : Bool) → ◌≡◌ {A = Option Scan} (cond b (Some (after s o)) None) (Some t) → ◌≡◌ {A = Option Scan} (cond b (scanned (after s o) os) None) (scanned t os)
      go true k = let e : after s o ≡ t = cc in rw e
      go false k = cc

-- two rows, one after the other
pub scanned_append : (s : Scan) (xs ys : List Op) → scanned s (xs ++ ys) ≡ option_and_then (λ t. scanned t ys) (scanned s xs)
unfolding scanned
scanned_append s [] ys = refl
scanned_append s (x ∷ xs) ys = go (within s.total x) (scanned_append (after s x) xs ys)
  where
    go : (t : Bool) → scanned (after s x) (xs ++ ys) ≡ option_and_then (λ t. scanned t ys) (scanned (after s x) xs)
        → cond t (scanned (after s x) (xs ++ ys)) None ≡ option_and_then (λ t. scanned t ys) (cond t (scanned (after s x) xs) None)
    go true h = h
    go false h = refl

pub advance_total : (s : Scan) (o : Op) (S : ℕ) → (advance s o S).total ≡ S
unfolding advance grown framed machined
advance_total s (PushNonVolatile r) S = refl
advance_total s (Alloc v) S = refl
advance_total s (SaveRsp r v) S = refl
advance_total s (SaveFp r v b) S = refl
advance_total s (SetFpRegister b) S = refl
advance_total s (PushMachineFrame e) S = refl
advance_total s Other S = refl
advance_total s Undecodable S = refl

-- ---- what it says of the chain

-- what holds at the end, and of each operation with what comes behind it, holds of a chain in reach
scan_ind : (P : Scan → List Op → Scan → Type 0) → ((s : Scan) → P s [] s)
    → ((s : Scan) (o : Op) (os : List Op) (z : Scan) → P (after s o) os z → P s (o ∷ os) z)
    → (s : Scan) (os : List Op) (z : Scan) → scanned s os ≡ Some z → P s os z
unfolding scanned
scan_ind P none more s [] z h = let e : s ≡ z = cc in rw (← e) (none s)
scan_ind P none more s (o ∷ os) z h = go (within s.total o) h (scan_ind P none more (after s o) os z)
  where
    go : (t : Bool) → ◌≡◌ {A = Option Scan} (cond t (scanned (after s o) os) None) (Some z) → (scanned (after s o) os ≡ Some z → P (after s o) os z) → P s (o ∷ os) z
    go true k ih = more s o os z (ih k)
    go false k ih = cc

advance_machine : (s : Scan) (o : Op) (S : ℕ) (b : Bool) → ((advance s o S).machine || b) ≡ (s.machine || (is_machine o || b))
unfolding advance grown framed machined is_machine
advance_machine s (PushNonVolatile r) S b = refl
advance_machine s (Alloc v) S b = refl
advance_machine s (SaveRsp r v) S b = refl
advance_machine s (SaveFp r v x) S b = refl
advance_machine s (SetFpRegister x) S b = refl
advance_machine s (PushMachineFrame e) S b = sym (or-true s.machine)
advance_machine s Other S b = refl
advance_machine s Undecodable S b = refl

-- the CFA where the operations os are yet to run
cfa_left : Option F.Frame → ℕ → List Op → List ℕ
cfa_left None S os = cfa_or (run set_text S os) (total S os)
cfa_left (Some f) S os = cfa_by (Some f) S

cfa_from : Scan → List Op → List ℕ
cfa_from s os = cfa_left s.frame s.total os

-- no frame register is set from here on to there
cfa_on : (f : Option F.Frame) (S S' : ℕ) (os os' : List Op) → cfa_left None S os ≡ cfa_left None S' os' → cfa_left f S os ≡ cfa_left f S' os'
unfolding cfa_left
cfa_on None S S' os os' h = h
cfa_on (Some f) S S' os os' h = refl

advance_cfa : (s : Scan) (o : Op) (os : List Op) → cfa_from (after s o) os ≡ cfa_from s (o ∷ os)
unfolding cfa_from cfa_left advance grown framed machined run total set_text cfa_or growth_of
advance_cfa s (PushNonVolatile r) os = cfa_on s.frame _ s.total os _ refl
advance_cfa s (Alloc v) os = cfa_on s.frame _ s.total os _ refl
advance_cfa s (SaveRsp r v) os = cfa_on s.frame _ s.total os _ refl
advance_cfa s (SaveFp r v b) os = cfa_on s.frame _ s.total os _ refl
advance_cfa s (SetFpRegister b) os = go s.frame
  where
    go : (x : Option F.Frame) → cfa_left (Some (unwrap_or x (record { base = b; place = s.total }))) (s.total + 0) os ≡ cfa_left x s.total (SetFpRegister b ∷ os)
    go None = refl
    go (Some x) = refl
advance_cfa s (PushMachineFrame e) os = cfa_on s.frame _ s.total os _ refl
advance_cfa s Other os = cfa_on s.frame _ s.total os _ refl
advance_cfa s Undecodable os = cfa_on s.frame _ s.total os _ refl

-- set twice, where n more set it
again : Scan → ℕ → Bool
again s n = s.twice || ltb 1 (cond (is_some s.frame) 1 0 + n)

advance_again : (s : Scan) (o : Op) (S n : ℕ) → again (advance s o S) n ≡ again s (cond (is_set o) 1 0 + n)
unfolding again advance grown framed machined is_set
advance_again s (PushNonVolatile r) S n = let e : 0 + n ≡ n = omega arith in rw e
advance_again s (Alloc v) S n = let e : 0 + n ≡ n = omega arith in rw e
advance_again s (SaveRsp r v) S n = let e : 0 + n ≡ n = omega arith in rw e
advance_again s (SaveFp r v b) S n = let e : 0 + n ≡ n = omega arith in rw e
advance_again s (SetFpRegister b) S n = elim (is_some s.frame) as (λ t. ((t || s.twice) || ltb 1 (1 + n)) ≡ (s.twice || ltb 1 (cond t 1 0 + (1 + n)))) [
  | true ↦ rw (lt-ltb 1 (1 + (1 + n)) (omega arith), or-true s.twice)
  | false ↦ let e : 0 + (1 + n) ≡ 1 + n = omega arith in rw e
]
advance_again s (PushMachineFrame e) S n = let e : 0 + n ≡ n = omega arith in rw e
advance_again s Other S n = let e : 0 + n ≡ n = omega arith in rw e
advance_again s Undecodable S n = let e : 0 + n ≡ n = omega arith in rw e

module _ (os : List Op) (z : Scan) (h : scanned scan_start os ≡ Some z) where
  pub scan_machine : z.machine ≡ any_machine os
  unfolding any_machine scan_start
  scan_machine = scan_ind (λ s os z. z.machine ≡ (s.machine || any_machine os)) (λ s. sym (or-false s.machine))
      (λ s o os z e. e ∙ advance_machine s o (s.total + growth_of o) (any_machine os)) scan_start os z h

  pub scan_cfa : cfa_of z ≡ cfa_or (run set_text 8 os) (total 8 os)
  unfolding cfa_of cfa_from cfa_left run total cfa_or scan_start
  scan_cfa = scan_ind (λ s os z. cfa_of z ≡ cfa_from s os) (λ s. none s s.frame) (λ s o os z e. e ∙ advance_cfa s o os) scan_start os z h
    where
      none : (s : Scan) (f : Option F.Frame) → cfa_by f s.total ≡ cfa_left f s.total []
      none s None = refl
      none s (Some f) = refl

  pub scan_twice : z.twice ≡ ltb 1 (set_count os)
  unfolding again set_count scan_start
  scan_twice = scan_ind (λ s os z. z.twice ≡ again s (set_count os)) (λ s. none s (is_some s.frame))
      (λ s o os z e. e ∙ advance_again s o (s.total + growth_of o) (set_count os)) scan_start os z h ∙ (let e : 0 + set_count os ≡ set_count os = omega arith in rw e)
    where
      none : (s : Scan) (t : Bool) → s.twice ≡ (s.twice || ltb 1 (cond t 1 0 + 0))
      none s true = sym (or-false s.twice)
      none s false = sym (or-false s.twice)

-- ---- refusals 6 and 7

pub scan_reached : (s : Scan) (os : List Op) → is_some (scanned s os) ≡ reaches s.total os
unfolding scanned reaches
scan_reached s [] = refl
scan_reached s (o ∷ os) = go (within s.total o) (scan_reached (after s o) os)
  where
    go : (t : Bool) → is_some (scanned (after s o) os) ≡ reaches (after s o).total os
        → is_some (cond t (scanned (after s o) os) None) ≡ (t && reaches (s.total + growth_of o) os)
    go true ih = ih ∙ ap (λ (n : ℕ). reaches n os) (advance_total s o (s.total + growth_of o))
    go false ih = refl

pub chain_reached : (os : List Op) → is_some (scanned scan_start os) ≡ reaches 8 os
unfolding scan_start
chain_reached os = scan_reached scan_start os

module _ (ws : List ℕ) (l : T (x64_layout ws)) where
  pub lost_is : scanned scan_start (chain ws) ≡ None → chain_refusal ws ≡ Some Reach
  unfolding chain_refusal
  lost_is h = let r : in_reach 8 (chain ws) ≡ false = sym (chain_reach ws l) ∙ sym (chain_reached (chain ws)) ∙ rw h in rw r

  pub twice_is : (z : Scan) → scanned scan_start (chain ws) ≡ Some z → chain_refusal ws ≡ cond z.twice (Some Frame) None
  unfolding chain_refusal
  twice_is z h =
      let r : in_reach 8 (chain ws) ≡ true = sym (chain_reach ws l) ∙ sym (chain_reached (chain ws)) ∙ rw h in
      rw (r, scan_twice (chain ws) z h)

-- a chain that came to something is in reach
pub in_reach_is : (os : List Op) (z : Scan) → scanned scan_start os ≡ Some z → T (reaches 8 os)
in_reach_is os z h = let r : reaches 8 os ≡ true = sym (chain_reached os) ∙ rw h in rw r tt

-- ---- the total, and the place where a frame register was set, stay below 2^31

advance_place : (s : Scan) (o : Op) (S : ℕ) → Small s → IfSome (advance s o S).frame (λ f. f.place < 2 ^ 31)
unfolding advance grown framed machined
advance_place s (PushNonVolatile r) S h = h.1
advance_place s (Alloc v) S h = h.1
advance_place s (SaveRsp r v) S h = h.1
advance_place s (SaveFp r v b) S h = h.1
advance_place s (SetFpRegister b) S h = go s.frame h.1
  where
    go : (x : Option F.Frame) → IfSome x (λ f. f.place < 2 ^ 31) → (unwrap_or x (record { base = b; place = s.total })).place < 2 ^ 31
    go None k = h.0
    go (Some x) k = k
advance_place s (PushMachineFrame e) S h = h.1
advance_place s Other S h = h.1
advance_place s Undecodable S h = h.1

pub scanned_small : (s : Scan) (os : List Op) (z : Scan) → Small s → scanned s os ≡ Some z → Small z
unfolding scanned
scanned_small s [] z h e = let k : s ≡ z = cc in rw (← k) h
scanned_small s (o ∷ os) z h e =
    go (within s.total o) e (λ w. ltb→lt (s.total + growth_of o) (2 ^ 31) (and_r (ltb (value_of o) (2 ^ 31)) _ w)) (scanned_small (after s o) os z)
  where
    go : (t : Bool) → ◌≡◌ {A = Option Scan} (cond t (scanned (after s o) os) None) (Some z) → (T t → s.total + growth_of o < 2 ^ 31)
        → (Small (after s o) → scanned (after s o) os ≡ Some z → Small z) → Small z
    go true k f ih = ih (rw (advance_total s o (s.total + growth_of o)) (f tt), advance_place s o (s.total + growth_of o) h) k
    go false k f ih = cc
