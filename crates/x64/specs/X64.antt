-- An x64 body (document 01, "x64 body"): its operations from the words, refusals 4 to 7, skipping, and its line as the operations are run.
-- A body's words are ws; a word that is missing reads 0.
use Rattle.std.specs.Prelude.{ℕ, zero, suc, min, ◌+◌, ◌-◌, ◌*◌, ◌^◌, Bool, true, false, cond, ◌&&◌, ◌||◌, List, [], ◌∷◌, ◌++◌, reverse, length, ℤ, pos, ltb, leb, eqb}
use Rattle.std.specs.Prelude.{Option, None, Some, Ok, Err}
use Rattle.std.proofs.Math.IntN.{sub_ℕ}
use Rattle.text.specs.Text.{ascii}
use Rattle.text.specs.Tests.{all}
use Rattle.tables.specs.Tables.{pe_name, pe_x64}
use Rattle.digits.specs.Digits.{hex, signed, Digits·open}
use Rattle.refusal.specs.declared.Refusal.{Refusal}
use Rattle.refusal.specs.declared.Refusal.TheVariants.{Layout, Chain, Reach, Frame}
use Rattle.entry.specs.declared.Fate.TheVariants.{Skip}
use Rattle.entry.specs.declared.Last.{Last}
use Rattle.entry.specs.Entry.{Judged, Entry, comes_to, word}
use Rattle.entry.specs.Entry.Laws.{reached}
use Rattle.x64.specs.declared.Base.{Base}
use Rattle.x64.specs.declared.Op.{Op}
use Rattle.x64.specs.declared.Op.TheVariants.{PushNonVolatile, Alloc, SaveRsp, SaveFp, SetFpRegister, PushMachineFrame, Other, Undecodable}
use Rattle.lines.specs.Reach.{inside}

-- ---- operations from words

-- the frame register and the frame offset of the info at word a
abbrev pub base_at : List ℕ → ℕ → Base
base_at ws a = record { register = word ws a; offset = word ws (a + 1) }

-- kind, register and value, in an info with these
unfoldable pub op_of : Base → ℕ → ℕ → ℕ → Op
op_of b k r v =
    cond (eqb k 1) (PushNonVolatile r) (cond (eqb k 2) (Alloc v) (cond (eqb k 3) (SaveRsp r v) (cond (eqb k 4) (SaveFp r v b)
    (cond (eqb k 5) (SetFpRegister b) (cond (eqb k 6) (PushMachineFrame (eqb v 1)) (cond (eqb k 8) Undecodable Other))))))

-- n operations in stored order, from word a on
unfoldable pub stored : List ℕ → Base → ℕ → ℕ → List Op
stored ws b a zero = []
stored ws b a (suc n) = op_of b (word ws a) (word ws (a + 1)) (word ws (a + 2)) ∷ stored ws b (a + 3) n

-- the operations of m infos, each as stored: frame register, frame offset, operation count, operations
unfoldable pub infos : List ℕ → ℕ → ℕ → List (List Op)
infos ws zero a = []
infos ws (suc m) a = stored ws (base_at ws a) (a + 3) (word ws (a + 2)) ∷ infos ws m (a + 3 + 3 * word ws (a + 2))

-- 02, request 2: the order in which a chain runs: infos last to first, a part after its parents, each backwards
unfoldable pub in_order : List (List Op) → List Op
in_order [] = []
in_order (os ∷ rest) = in_order rest ++ reverse os

-- word 3: the number of infos
abbrev pub info_count : List ℕ → ℕ
info_count ws = word ws 3

-- all operations of a body in that order
unfoldable pub chain : List ℕ → List Op
chain ws = in_order (infos ws (info_count ws) 4)

-- ---- what an operation adds to the total, uses and writes, where the total is S

-- 8 a push, its value an allocation, 40 a machine frame and 8 its error code
unfoldable pub growth_of : Op → ℕ
growth_of (PushNonVolatile r) = 8
growth_of (Alloc v) = v
growth_of (SaveRsp r v) = 0
growth_of (SaveFp r v b) = 0
growth_of (SetFpRegister b) = 0
growth_of (PushMachineFrame code) = cond code 48 40
growth_of Other = 0
growth_of Undecodable = 0

-- the value that an operation uses (refusal 6)
unfoldable pub value_of : Op → ℕ
value_of (PushNonVolatile r) = 0
value_of (Alloc v) = v
value_of (SaveRsp r v) = v
value_of (SaveFp r v b) = v
value_of (SetFpRegister b) = 0
value_of (PushMachineFrame code) = 0
value_of Other = 0
value_of Undecodable = 0

-- what stands at CFA - N: ".cfa N - ^"
abbrev pub place_text : ℤ → List ℕ
place_text n = ascii ".cfa " ++ signed n ++ ascii " - ^"

-- " R: .cfa N - ^"
unfoldable pub saved_text : List ℕ → ℤ → List ℕ
saved_text name n = ascii " " ++ name ++ ascii ": " ++ place_text n

-- " R: F N + ^", F the frame register's name
unfoldable pub framed_text : List ℕ → List ℕ → ℤ → List ℕ
framed_text name frame n = ascii " " ++ name ++ ascii ": " ++ frame ++ ascii " " ++ signed n ++ ascii " + ^"

-- where the interrupt pushed RSP and RIP
unfoldable pub machine_text : ℕ → List ℕ
machine_text S = saved_text (ascii "$rsp") (pos (S + 16)) ++ saved_text (ascii ".ra") (pos (S + 40))

-- push: S + 8; save 3: S - value; save 4: value - frame offset from the frame register
unfoldable pub op_text : ℕ → Op → List ℕ
op_text S (PushNonVolatile r) = saved_text (pe_name r) (pos (S + 8))
op_text S (Alloc v) = []
op_text S (SaveRsp r v) = saved_text (pe_name r) (sub_ℕ S v)
op_text S (SaveFp r v b) = framed_text (pe_name r) (pe_name b.register) (sub_ℕ v b.offset)
op_text S (SetFpRegister b) = []
op_text S (PushMachineFrame code) = machine_text S
op_text S Other = []
op_text S Undecodable = []

-- " .cfa: R N +"
unfoldable pub cfa_text : List ℕ → ℤ → List ℕ
cfa_text r n = ascii " .cfa: " ++ r ++ ascii " " ++ signed n ++ ascii " +"

-- set: the CFA is S - frame offset above the frame register
unfoldable pub set_text : ℕ → Op → List (List ℕ)
set_text S (PushNonVolatile r) = []
set_text S (Alloc v) = []
set_text S (SaveRsp r v) = []
set_text S (SaveFp r v b) = []
set_text S (SetFpRegister b) = cfa_text (pe_name b.register) (sub_ℕ S b.offset) ∷ []
set_text S (PushMachineFrame code) = []
set_text S Other = []
set_text S Undecodable = []

-- is it a machine frame
unfoldable pub is_machine : Op → Bool
is_machine (PushNonVolatile r) = false
is_machine (Alloc v) = false
is_machine (SaveRsp r v) = false
is_machine (SaveFp r v b) = false
is_machine (SetFpRegister b) = false
is_machine (PushMachineFrame code) = true
is_machine Other = false
is_machine Undecodable = false

-- is there one in the chain
unfoldable pub any_machine : List Op → Bool
any_machine [] = false
any_machine (o ∷ os) = is_machine o || any_machine os

-- ---- the line, as the operations are run with the total S

module _ {A : Type 0} where
  -- what f gives of each, one after the other, with the total before it
  unfoldable pub run : (ℕ → Op → List A) → ℕ → List Op → List A
  run f S [] = []
  run f S (o ∷ os) = f S o ++ run f (S + growth_of o) os

-- the total after all
unfoldable pub total : ℕ → List Op → ℕ
total S [] = S
total S (o ∷ os) = total (S + growth_of o) os

-- from the frame register that was set (refusal 7: at most one), else from $rsp
unfoldable pub cfa_or : List (List ℕ) → ℕ → List ℕ
cfa_or [] S = cfa_text (ascii "$rsp") (pos S)
cfa_or (t ∷ ts) S = t

-- with no machine frame, " .ra: .cfa 8 - ^" ends the line
unfoldable pub ra_text : Bool → List ℕ
ra_text machine = cond machine [] (saved_text (ascii ".ra") (pos 8))

-- the CFA rule, then the others as run
unfoldable pub rules_run : List Op → List ℕ
rules_run os = cfa_or (run set_text 8 os) (total 8 os) ++ run op_text 8 os ++ ra_text (any_machine os)

-- INIT, begin, end less begin, and the rules
unfoldable pub x64_text : List ℕ → List ℕ
x64_text ws = ascii "STACK CFI INIT " ++ hex (word ws 0) ++ ascii " " ++ hex (word ws 1 - word ws 0) ++ rules_run (chain ws) ++ ascii "\n"

-- ---- refusal 4: ranges, and exactly the words that the counts demand

-- the words that its kind uses keep their ranges
unfoldable pub op_fits : ℕ → ℕ → ℕ → Bool
op_fits k r v = cond (eqb k 1 || (eqb k 3 || eqb k 4)) (ltb r 16) (cond (eqb k 6) (leb v 1) (leb 1 k && leb k 8))

-- n operations from word a on
unfoldable pub ops_fit : List ℕ → ℕ → ℕ → Bool
ops_fit ws a zero = true
ops_fit ws a (suc n) = op_fits (word ws a) (word ws (a + 1)) (word ws (a + 2)) && ops_fit ws (a + 3) n

-- frame register 0 to 15, frame offset 0 to 240, at most 255 operations
unfoldable pub info_fits : List ℕ → ℕ → Bool
info_fits ws a = (ltb (word ws a) 16 && (leb (word ws (a + 1)) 240 && leb (word ws (a + 2)) 255)) && ops_fit ws (a + 3) (word ws (a + 2))

-- m infos from word a on, and nothing behind them
unfoldable pub infos_fit : List ℕ → ℕ → ℕ → Bool
infos_fit ws zero a = eqb a (length ws)
infos_fit ws (suc m) a = info_fits ws a && infos_fit ws m (a + 3 + 3 * word ws (a + 2))

-- 1 to 32 infos
unfoldable pub x64_layout : List ℕ → Bool
x64_layout ws = (leb 1 (info_count ws) && leb (info_count ws) 32) && infos_fit ws (info_count ws) 4

-- ---- skipping

-- all three leading words zero
unfoldable pub all_zero : ℕ → ℕ → ℕ → Bool
all_zero a b c = eqb a 0 && (eqb b 0 && eqb c 0)

-- an undecodable one, kind 8, among n operations from word a on; and among those of m infos
unfoldable pub undecodable_ops : List ℕ → ℕ → ℕ → Bool
undecodable_ops ws a zero = false
undecodable_ops ws a (suc n) = eqb (word ws a) 8 || undecodable_ops ws (a + 3) n

-- the same in m infos from word a on
unfoldable pub undecodable_infos : List ℕ → ℕ → ℕ → Bool
undecodable_infos ws zero a = false
undecodable_infos ws (suc m) a = undecodable_ops ws (a + 3) (word ws (a + 2)) || undecodable_infos ws m (a + 3 + 3 * word ws (a + 2))

-- the three leading words zero, end below begin, or an undecodable operation within the first `limit` infos
unfoldable pub x64_skipped : ℕ → List ℕ → Bool
x64_skipped limit ws =
    all_zero (word ws 0) (word ws 1) (word ws 2) || (ltb (word ws 1) (word ws 0) || undecodable_infos ws (min limit (info_count ws)) 4)

-- ---- refusals 5, 6 and 7

-- the places that an operation prints
unfoldable pub printed : ℕ → Op → List ℤ
printed S (PushNonVolatile r) = pos (S + 8) ∷ []
printed S (Alloc v) = []
printed S (SaveRsp r v) = sub_ℕ S v ∷ []
printed S (SaveFp r v b) = sub_ℕ v b.offset ∷ []
printed S (SetFpRegister b) = sub_ℕ S b.offset ∷ []
printed S (PushMachineFrame code) = pos (S + 16) ∷ pos (S + 40) ∷ []
printed S Other = []
printed S Undecodable = []

-- each value used is below 2^31, each total and each printed place inside signed 32 bits
unfoldable pub in_reach : ℕ → List Op → Bool
in_reach S [] = true
in_reach S (o ∷ os) = (ltb (value_of o) (2 ^ 31) && (inside (pos (S + growth_of o)) && all inside (printed S o))) && in_reach (S + growth_of o) os

-- does it set a frame register
unfoldable pub is_set : Op → Bool
is_set (PushNonVolatile r) = false
is_set (Alloc v) = false
is_set (SaveRsp r v) = false
is_set (SaveFp r v b) = false
is_set (SetFpRegister b) = true
is_set (PushMachineFrame code) = false
is_set Other = false
is_set Undecodable = false

-- how many operations set a frame register
unfoldable pub set_count : List Op → ℕ
set_count [] = 0
set_count (o ∷ os) = cond (is_set o) 1 0 + set_count os

-- 5, then 6, then 7
unfoldable pub x64_reach : ℕ → List ℕ → Option Refusal
x64_reach limit ws =
    cond (ltb limit (info_count ws)) (Some Chain) (cond (in_reach 8 (chain ws)) (cond (ltb 1 (set_count (chain ws))) (Some Frame) None) (Some Reach))

-- ---- one entry: 4, skipping, 5 to 7

-- 4, skipping, then the rest
unfoldable pub x64_judged : ℕ → List ℕ → Judged
x64_judged limit ws =
    cond (x64_layout ws) (cond (x64_skipped limit ws) (Ok Skip) (reached (x64_reach limit ws))) (Err Layout)

-- x64 passes on what was left to it
unfoldable pub x64_entry : ℕ → Option Last → List ℕ → Entry
x64_entry limit last ws = comes_to (x64_judged limit ws) (x64_text ws) last last

-- what to unfold where x64 entries are to compute
unfoldable pub X64·open : Type 0
unfolding Digits·open pe_name pe_x64 op_of stored infos in_order chain growth_of value_of saved_text framed_text machine_text op_text cfa_text set_text is_machine
    any_machine run total cfa_or ra_text rules_run x64_text op_fits ops_fit info_fits infos_fit x64_layout all_zero undecodable_ops undecodable_infos x64_skipped
    inside printed in_reach is_set set_count x64_reach x64_judged x64_entry
X64·open = Unit {0}
