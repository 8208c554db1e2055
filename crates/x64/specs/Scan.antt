-- What a first pass over a chain's operations keeps, one step for each; Laws: what it says of the chain.
use Rattle.std.specs.Prelude.{ℕ, ◌+◌, ◌^◌, ◌<◌, true, false, cond, ◌||◌, List, [], ◌∷◌, pos, Option, None, Some, IfSome}
use Rattle.std.specs.Option.{is_some, unwrap_or}
use Rattle.std.proofs.Math.IntN.{sub_ℕ}
use Rattle.x64.specs.declared.Base.{Base}
use Rattle.x64.specs.declared.Op.{Op}
use Rattle.x64.specs.declared.Op.TheVariants.{PushNonVolatile, Alloc, SaveRsp, SaveFp, SetFpRegister, PushMachineFrame, Other, Undecodable}
use Rattle.x64.specs.declared.Frame.{Frame}
use Rattle.x64.specs.declared.Scan.{Scan}
use Rattle.text.specs.Text.{ascii}
use Rattle.tables.specs.Tables.{pe_name}
use Rattle.x64.specs.X64.{growth_of, cfa_text}
use Rattle.x64.specs.Index.{within}
pub mod Laws

-- S is 8; nothing else was met
unfoldable pub scan_start : Scan
scan_start = record { total = 8; frame = None; twice = false; machine = false }

-- the total is S
unfoldable pub grown : Scan → ℕ → Scan
grown s S = record { total = S; frame = s.frame; twice = s.twice; machine = s.machine }

-- a frame register is set: the first one and its place are kept, a second is noted (refusal 7); the total is S
unfoldable pub framed : Scan → Base → ℕ → Scan
framed s b S = record {
  total = S;
  frame = Some (unwrap_or s.frame (record { base = b; place = s.total }));
  twice = is_some s.frame || s.twice;
  machine = s.machine;
}

-- a machine frame, and the total is S
unfoldable pub machined : Scan → ℕ → Scan
machined s S = record { total = S; frame = s.frame; twice = s.twice; machine = true }

-- an operation in reach, where the total after it is S
unfoldable pub advance : Scan → Op → ℕ → Scan
advance s (PushNonVolatile r) S = grown s S
advance s (Alloc v) S = grown s S
advance s (SaveRsp r v) S = grown s S
advance s (SaveFp r v b) S = grown s S
advance s (SetFpRegister b) S = framed s b S
advance s (PushMachineFrame e) S = machined s S
advance s Other S = grown s S
advance s Undecodable S = grown s S

-- none where it is out of reach (refusal 6)
unfoldable pub scan_step : Scan → Op → Option Scan
scan_step s o = cond (within s.total o) (Some (advance s o (s.total + growth_of o))) None

-- all operations, in the order in which they are run; none where one is out of reach
unfoldable pub scanned : Scan → List Op → Option Scan
scanned s [] = Some s
scanned s (o ∷ os) = cond (within s.total o) (scanned (advance s o (s.total + growth_of o)) os) None

-- 01, x64 body: the CFA, from the frame register that was set, else from $rsp
abbrev pub cfa_by : Option Frame → ℕ → List ℕ
cfa_by None S = cfa_text (ascii "$rsp") (pos S)
cfa_by (Some f) S = cfa_text (pe_name f.base.register) (sub_ℕ f.place f.base.offset)

unfoldable pub cfa_of : Scan → List ℕ
cfa_of s = cfa_by s.frame s.total

-- the total, and the place where a frame register was set, are below 2^31
abbrev pub Small : Scan → Type 0
Small s = (s.total < 2 ^ 31) × IfSome s.frame (λ f. f.place < 2 ^ 31)
