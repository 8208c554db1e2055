-- The sense of an ARM64 entry (document 01, "Sense" and "ARM64 body"): its lines, with each operation's T by a sum over those run before it, and
-- save-next by the last earlier pair. With the text's definitions it shares the operations in the order in which they are run (`ops`) and the
-- names; that the two agree is proved in proofs/Sense.antt.
use Rattle.std.specs.Prelude.{ℕ, zero, suc, ◌+◌, ◌*◌, Bool, true, not, cond, ◌&&◌, List, [], ◌∷◌, ◌++◌, length, ℤ, pos, ◌+ℤ◌, eqb}
use Rattle.std.proofs.Math.IntN.{sub_ℕ}
use Rattle.text.specs.Text.{ascii}
use Rattle.text.specs.Tests.{eqw}
use Rattle.names.specs.Names.{arm64_name}
use Rattle.lines.specs.Lines.{Bytes, Rule, rule, register, register_plus, at_cfa_plus, cfa, Line, init, later}
use Rattle.entry.specs.Entry.{word}
use Rattle.arm64.specs.declared.Op.{Op}
use Rattle.arm64.specs.declared.Op.TheVariants.{AllocStack, SaveReg, SaveRegPreindexed, SaveRegPair, SaveRegPairPreindexed, SaveLrPair, SaveNext, Other, End, Undecodable}
use Rattle.arm64.specs.Arm64.{ops}

-- ---- sums and pairs

-- what an operation lets the stack grow by
unfoldable pub added_by : Op → ℕ
added_by (AllocStack v) = v
added_by (SaveReg l r v) = 0
added_by (SaveRegPreindexed l r v) = v
added_by (SaveRegPair l r v) = 0
added_by (SaveRegPairPreindexed l r v) = v
added_by (SaveLrPair r v) = 0
added_by SaveNext = 0
added_by Other = 0
added_by End = 0
added_by Undecodable = 0

-- T after the operations run so far, latest first
unfoldable pub sum : List Op → ℕ
sum [] = 0
sum (o ∷ ds) = sum ds + added_by o

-- a register, its letter and its number, that stands at CFA + place
pub record Slot : Type 0 where
  pub letter : ℕ
  pub number : ℕ
  pub place : ℤ

-- such a register
abbrev pub slot : ℕ → ℕ → ℤ → Slot
slot l n z = record { letter = l; number = n; place = z }

-- how far a pair's second lies above its first: 8 for x and for d, 16 for q
unfoldable pub step : ℕ → ℕ
step l = cond (eqb l 0) 8 (cond (eqb l 1) 8 16)

-- the register behind it, so far above
unfoldable pub next : Slot → Slot
next p = slot p.letter (p.number + 1) (p.place +ℤ pos (step p.letter))

-- the second register of the last of kinds 4, 5 and 7 among the operations run so far, latest first; at first x0 at place 0
unfoldable pub last_pair : List Op → Slot
last_pair [] = slot 0 0 (pos 0)
last_pair (AllocStack v ∷ ds) = last_pair ds
last_pair (SaveReg l r v ∷ ds) = last_pair ds
last_pair (SaveRegPreindexed l r v ∷ ds) = last_pair ds
last_pair (SaveRegPair l r v ∷ ds) = next (slot l r (sub_ℕ v (sum ds)))
last_pair (SaveRegPairPreindexed l r v ∷ ds) = next (slot l r (sub_ℕ 0 (sum ds + v)))
last_pair (SaveLrPair r v ∷ ds) = last_pair ds
last_pair (SaveNext ∷ ds) = next (next (last_pair ds))
last_pair (Other ∷ ds) = last_pair ds
last_pair (End ∷ ds) = last_pair ds
last_pair (Undecodable ∷ ds) = last_pair ds

-- ---- rules

-- what stands at CFA + place
unfoldable pub slot_rule : Slot → Rule
slot_rule p = rule (arm64_name p.letter p.number) (at_cfa_plus p.place)

-- the CFA is the stack pointer plus T
unfoldable pub cfa_rule : ℕ → Rule
cfa_rule T = rule cfa (register_plus (ascii ".sp") (pos T))

-- .ra where x30 stands
unfoldable pub ra_rule : Slot → Rule
ra_rule p = rule (ascii ".ra") (at_cfa_plus p.place)

-- a rule that may be there
abbrev pub optional : Bool → Rule → List Rule
optional t r = cond t (r ∷ []) []

-- is it x30, the link register
unfoldable pub is_x30 : Slot → Bool
is_x30 p = eqb p.number 30 && eqb p.letter 0

-- a pair, with .ra where its second is x30
unfoldable pub two_rules : Slot → Slot → List Rule
two_rules p q = slot_rule p ∷ slot_rule q ∷ optional (is_x30 q) (ra_rule q)

-- a register and the one behind it
abbrev pub pair_rules : Slot → List Rule
pair_rules p = two_rules p (next p)

-- the rules of an operation, where these were run before it, latest first: places are value - T, or -value - T where pre-indexed
unfoldable pub op_rules : List Op → Op → List Rule
op_rules ds (AllocStack v) = cfa_rule (sum ds + v) ∷ []
op_rules ds (SaveReg l r v) = slot_rule (slot l r (sub_ℕ v (sum ds))) ∷ []
op_rules ds (SaveRegPreindexed l r v) = cfa_rule (sum ds + v) ∷ slot_rule (slot l r (sub_ℕ 0 (sum ds + v))) ∷ []
op_rules ds (SaveRegPair l r v) = pair_rules (slot l r (sub_ℕ v (sum ds)))
op_rules ds (SaveRegPairPreindexed l r v) = cfa_rule (sum ds + v) ∷ pair_rules (slot l r (sub_ℕ 0 (sum ds + v)))
op_rules ds (SaveLrPair r v) = two_rules (slot 0 r (sub_ℕ v (sum ds))) (slot 0 30 (sub_ℕ v (sum ds) +ℤ pos 8))
op_rules ds SaveNext = pair_rules (next (last_pair ds))
op_rules ds Other = cfa_rule (sum ds) ∷ []
op_rules ds End = []
op_rules ds Undecodable = []

-- ---- lines

-- no rule is for this name
unfoldable pub lacks : Bytes → List Rule → Bool
lacks n [] = true
lacks n (rule m f ∷ rs) = not (eqw m n) && lacks n rs

-- what line 0 ends with: the CFA is .sp and .ra is .x30, unless there is a rule
unfoldable pub defaults : List Rule → List Rule
defaults rs =
    optional (lacks cfa rs) (rule cfa (register (ascii ".sp"))) ++ optional (lacks (ascii ".ra") rs) (rule (ascii ".ra") (register (ascii ".x30")))

-- line i of a function at address a of size z
unfoldable pub arm_line : ℕ → ℕ → ℕ → List Rule → Line
arm_line a z zero rs = init a z (rs ++ defaults rs)
arm_line a z (suc i) rs = later (a + 4 * suc i) rs

-- a line for each operation: as many bytes further on as four for each run before it
unfoldable pub lines_from : ℕ → ℕ → List Op → List Op → List Line
lines_from a z ds [] = []
lines_from a z ds (o ∷ os) = arm_line a z (length ds) (op_rules ds o) ∷ lines_from a z (o ∷ ds) os

-- 01, Sense: the lines of an entry
unfoldable pub arm_lines : List ℕ → List Line
arm_lines ws = lines_from (word ws 0) (word ws 1) [] (ops ws)
