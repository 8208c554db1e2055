-- The sense of an x64 entry (document 01, "Sense"): its line, with each operation's S by a sum over those run before it.
-- With the text's definitions it shares the operations in the order in which they are run (`chain`) and the names; that the two agree is proved in
-- proofs/Sense.antt.
use Rattle.std.specs.Prelude.{ℕ, zero, suc, ◌+◌, ◌-◌, cond, List, [], ◌∷◌, ◌++◌, length, get_or, take, pos, eqb}
use Rattle.std.proofs.Math.IntN.{sub_ℕ}
use Rattle.text.specs.Text.{ascii}
use Rattle.tables.specs.Tables.{pe_name}
use Rattle.lines.specs.Lines.{Form, register_plus, at_register_plus, at_cfa_minus, Rule, rule, Line, init, cfa}
use Rattle.entry.specs.Entry.{word}
use Rattle.x64.specs.declared.Op.{Op}
use Rattle.x64.specs.declared.Op.TheVariants.{PushNonVolatile, Alloc, SaveRsp, SaveFp, SetFpRegister, PushMachineFrame, Other, Undecodable}
use Rattle.x64.specs.X64.{chain}

-- ---- what an operation recovers, where its S is known

-- a push lies at S + 8, save 3 at S - value, save 4 at value - frame offset from the frame register; a machine frame has RSP and RIP
unfoldable pub op_rules : ℕ → Op → List Rule
op_rules S (PushNonVolatile r) = rule (pe_name r) (at_cfa_minus (pos (S + 8))) ∷ []
op_rules S (Alloc v) = []
op_rules S (SaveRsp r v) = rule (pe_name r) (at_cfa_minus (sub_ℕ S v)) ∷ []
op_rules S (SaveFp r v b) = rule (pe_name r) (at_register_plus (pe_name b.register) (sub_ℕ v b.offset)) ∷ []
op_rules S (SetFpRegister b) = []
op_rules S (PushMachineFrame code) = rule (ascii "$rsp") (at_cfa_minus (pos (S + 16))) ∷ rule (ascii ".ra") (at_cfa_minus (pos (S + 40))) ∷ []
op_rules S Other = []
op_rules S Undecodable = []

-- the CFA that an operation sets
unfoldable pub op_cfa : ℕ → Op → List Form
op_cfa S (PushNonVolatile r) = []
op_cfa S (Alloc v) = []
op_cfa S (SaveRsp r v) = []
op_cfa S (SaveFp r v b) = []
op_cfa S (SetFpRegister b) = register_plus (pe_name b.register) (sub_ℕ S b.offset) ∷ []
op_cfa S (PushMachineFrame code) = []
op_cfa S Other = []
op_cfa S Undecodable = []

-- from the frame register that was set (refusal 7: at most one), else from $rsp
unfoldable pub cfa_form : List Form → ℕ → Form
cfa_form [] S = register_plus (ascii "$rsp") (pos S)
cfa_form (f ∷ fs) S = f

-- ---- S by sums

-- 8 a push, an allocation's value, 40 a machine frame and 8 its error code
unfoldable pub added_by : Op → ℕ
added_by (PushNonVolatile r) = 8
added_by (Alloc v) = v
added_by (SaveRsp r v) = 0
added_by (SaveFp r v b) = 0
added_by (SetFpRegister b) = 0
added_by (PushMachineFrame code) = 40 + cond code 8 0
added_by Other = 0
added_by Undecodable = 0

-- over operations run before
unfoldable pub sum : List Op → ℕ
sum [] = 0
sum (o ∷ os) = added_by o + sum os

module _ {A : Type 0} where
  -- what f gives of n numbers from k on, one after the other
  unfoldable pub each : (ℕ → List A) → ℕ → ℕ → List A
  each f k zero = []
  each f k (suc n) = f k ++ each f (suc k) n

  -- 01, Sense: what f gives of each operation k, where its S is 8 plus what the k run before it add
  unfoldable pub sums : (ℕ → Op → List A) → List Op → List A
  sums f os = each (λ k. f (8 + sum (take k os)) (get_or os k Other)) 0 (length os)

-- ---- what a chain adds up to

-- how many pushes
unfoldable pub pushes : List Op → ℕ
pushes [] = 0
pushes (o ∷ os) = elim o [
  | PushNonVolatile r ↦ 1
  | Alloc v ↦ 0
  | SaveRsp r v ↦ 0
  | SaveFp r v b ↦ 0
  | SetFpRegister b ↦ 0
  | PushMachineFrame e ↦ 0
  | Other ↦ 0
  | Undecodable ↦ 0
] + pushes os

-- what the allocations come to
unfoldable pub allocations : List Op → ℕ
allocations [] = 0
allocations (o ∷ os) = elim o [
  | PushNonVolatile r ↦ 0
  | Alloc v ↦ v
  | SaveRsp r v ↦ 0
  | SaveFp r v b ↦ 0
  | SetFpRegister b ↦ 0
  | PushMachineFrame e ↦ 0
  | Other ↦ 0
  | Undecodable ↦ 0
] + allocations os

-- how many machine frames
unfoldable pub machine_frames : List Op → ℕ
machine_frames [] = 0
machine_frames (o ∷ os) = elim o [
  | PushNonVolatile r ↦ 0
  | Alloc v ↦ 0
  | SaveRsp r v ↦ 0
  | SaveFp r v b ↦ 0
  | SetFpRegister b ↦ 0
  | PushMachineFrame e ↦ 1
  | Other ↦ 0
  | Undecodable ↦ 0
] + machine_frames os

-- how many of them with an error code
unfoldable pub error_codes : List Op → ℕ
error_codes [] = 0
error_codes (o ∷ os) = elim o [
  | PushNonVolatile r ↦ 0
  | Alloc v ↦ 0
  | SaveRsp r v ↦ 0
  | SaveFp r v b ↦ 0
  | SetFpRegister b ↦ 0
  | PushMachineFrame e ↦ cond e 1 0
  | Other ↦ 0
  | Undecodable ↦ 0
] + error_codes os

-- ---- the line

-- with no machine frame the return address stands at CFA - 8
unfoldable pub ra_rules : List Op → List Rule
ra_rules os = cond (eqb (machine_frames os) 0) (rule (ascii ".ra") (at_cfa_minus (pos 8)) ∷ []) []

-- the rules of operations in the order in which they are run
unfoldable pub x64_rules : List Op → List Rule
x64_rules os = rule cfa (cfa_form (sums op_cfa os) (8 + sum os)) ∷ (sums op_rules os ++ ra_rules os)

-- 01, Sense: INIT, its address, size and rules
unfoldable pub x64_line : List ℕ → Line
x64_line ws = init (word ws 0) (word ws 1 - word ws 0) (x64_rules (chain ws))

-- 01, Sense: an entry has one line
unfoldable pub x64_lines : List ℕ → List Line
x64_lines ws = x64_line ws ∷ []
