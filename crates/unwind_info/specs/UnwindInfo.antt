-- UNWIND_INFO of an x64 image to the words of an x64 body (document 02, request 1), by Microsoft's page on x64 exception handling, version 1.
-- A byte that is missing reads 0.
use Rattle.std.specs.Prelude.{Bool, cond, ◌&&◌, List, [], ◌∷◌, ◌++◌, ℕ, zero, suc, ◌+◌, ◌-◌, ◌*◌, ◌/◌, ◌%◌, Option, Some, None, length, get_or, drop, eqb, ltb, leb}
use Rattle.fill.specs.Fill.{Fill, refused, roomed}
use Rattle.unwind_info.specs.declared.Operation.{Operation}
use Rattle.unwind_info.specs.declared.Operation.TheVariants.{PushNonVolatile, Alloc, SaveRsp, SaveFp, SetFpRegister, PushMachineFrame, Other, Undecodable}
use Rattle.unwind_info.specs.declared.UnwindCode.{UnwindCode}

-- ---- bytes and slots

abbrev pub byte : List ℕ → ℕ → ℕ
byte bs i = get_or bs i 0

-- a slot has two bytes; as a number, the low one first
unfoldable pub slot_at : List ℕ → ℕ → ℕ
slot_at bs i = byte bs i + 256 * byte bs (i + 1)

-- two slots as one number, the low one first
unfoldable pub long_at : List ℕ → ℕ → ℕ
long_at bs i = slot_at bs i + 65536 * slot_at bs (i + 2)

-- ---- the header of the part that bs starts with; flags and the size of the prolog (byte 1) are not read

abbrev pub version : List ℕ → ℕ
version bs = byte bs 0 % 8

abbrev pub slot_count : List ℕ → ℕ
slot_count bs = byte bs 2

abbrev pub frame_register : List ℕ → ℕ
frame_register bs = byte bs 3 % 16

abbrev pub frame_offset : List ℕ → ℕ
frame_offset bs = byte bs 3 / 16 * 16

-- four header bytes and the counted slots
abbrev pub part_size : List ℕ → ℕ
part_size bs = 4 + 2 * slot_count bs

-- ---- operation codes

-- a code: its slots and the operation. None is one that the page does not define
abbrev pub code : ℕ → Operation → Option UnwindCode
code s o = Some (record { slots = s; operation = o })

abbrev pub slots_of : Option UnwindCode → ℕ
slots_of None = 0
slots_of (Some c) = c.slots

-- kind 8 for a code or an info that the page does not define, and for slots that run past the count
abbrev pub operation_of : Option UnwindCode → Operation
operation_of None = Undecodable
operation_of (Some c) = c.operation

-- saves are relative to the frame register where there is one
abbrev pub save : ℕ → ℕ → ℕ → Operation
save f r v = cond (eqb f 0) (SaveRsp r v) (SaveFp r v)

-- info 0: one slot, in units of 8; info 1: two slots as they are
abbrev pub alloc_large : ℕ → ℕ → ℕ → Option UnwindCode
alloc_large i near far = cond (eqb i 0) (code 2 (Alloc (8 * near))) (cond (eqb i 1) (code 3 (Alloc far)) None)

-- info 1: with an error code; info 0: without
abbrev pub push_machframe : ℕ → Option UnwindCode
push_machframe i = cond (leb i 1) (code 1 (PushMachineFrame (eqb i 1))) None

-- the page's table by operation code, each with slots and operation: f the frame register, i the info, near the slot behind the
-- code's own, far the two slots behind it
unfoldable pub codes : ℕ → ℕ → ℕ → ℕ → List (Option UnwindCode)
codes f i near far =
    code 1 (PushNonVolatile i)  -- 0 PUSH_NONVOL
    ∷ alloc_large i near far  -- 1 ALLOC_LARGE
    ∷ code 1 (Alloc (8 * i + 8))  -- 2 ALLOC_SMALL
    ∷ code 1 SetFpRegister  -- 3 SET_FPREG
    ∷ code 2 (save f i (8 * near))  -- 4 SAVE_NONVOL
    ∷ code 3 (save f i far)  -- 5 SAVE_NONVOL_FAR
    ∷ None  -- 6
    ∷ None  -- 7
    ∷ code 2 Other  -- 8 SAVE_XMM128
    ∷ code 3 Other  -- 9 SAVE_XMM128_FAR
    ∷ push_machframe i  -- 10 PUSH_MACHFRAME
    ∷ []  -- 11 to 15

-- the code in the slot that bs starts with: the code offset is not read; operation code in the low 4 bits, info in the high
unfoldable pub code_at : ℕ → List ℕ → Option UnwindCode
code_at f bs = get_or (codes f (byte bs 1 / 16) (slot_at bs 2) (long_at bs 2)) (byte bs 1 % 16) None

-- it is defined, and its slots do not run past n
abbrev pub within : ℕ → Option UnwindCode → Bool
within n c = leb 1 (slots_of c) && leb (slots_of c) n

-- the operations of n slots, from the first of them on; an undecodable one is the last. Each code has a slot, so that there are at most k, from
-- k = n on
unfoldable pub codes_in : ℕ → ℕ → ℕ → List ℕ → List Operation
codes_in zero f n bs = []
codes_in (suc k) f zero bs = []
codes_in (suc k) f (suc n) bs =
    let c = code_at f bs in
    cond (within (suc n) c) (operation_of c ∷ codes_in k f (suc n - slots_of c) (drop (2 * slots_of c) bs)) (Undecodable ∷ [])

-- those of a part
unfoldable pub codes_of : List ℕ → List Operation
codes_of bs = codes_in (slot_count bs) (frame_register bs) (slot_count bs) (drop 4 bs)

-- ---- the body's words

-- the number of an operation's kind (docs/BOOK.md)
abbrev pub kind_of : Operation → ℕ
kind_of (PushNonVolatile r) = 1
kind_of (Alloc v) = 2
kind_of (SaveRsp r v) = 3
kind_of (SaveFp r v) = 4
kind_of SetFpRegister = 5
kind_of (PushMachineFrame e) = 6
kind_of Other = 7
kind_of Undecodable = 8

-- its register, and its value; 0 where the kind uses none
abbrev pub register_of : Operation → ℕ
register_of (PushNonVolatile r) = r
register_of (Alloc v) = 0
register_of (SaveRsp r v) = r
register_of (SaveFp r v) = r
register_of SetFpRegister = 0
register_of (PushMachineFrame e) = 0
register_of Other = 0
register_of Undecodable = 0

abbrev pub value_of : Operation → ℕ
value_of (PushNonVolatile r) = 0
value_of (Alloc v) = v
value_of (SaveRsp r v) = v
value_of (SaveFp r v) = v
value_of SetFpRegister = 0
value_of (PushMachineFrame e) = cond e 1 0
value_of Other = 0
value_of Undecodable = 0

-- kind, register, value
abbrev pub words_of : Operation → List ℕ
words_of o = kind_of o ∷ register_of o ∷ value_of o ∷ []

-- of each
unfoldable pub op_words : List Operation → List ℕ
op_words [] = []
op_words (o ∷ os) = words_of o ++ op_words os

-- an info: frame register, frame offset, operation count, operations
unfoldable pub info_words : List ℕ → List ℕ
info_words bs = frame_register bs ∷ frame_offset bs ∷ length (codes_of bs) ∷ op_words (codes_of bs)

-- parts one after the other to the end of the bytes, each as what stands from it on. Each has a byte, so that there are at most k, from k = length bs on
unfoldable pub parts_in : ℕ → List ℕ → List (List ℕ)
parts_in zero bs = []
parts_in (suc k) [] = []
parts_in (suc k) (b ∷ bs) = (b ∷ bs) ∷ parts_in k (drop (part_size (b ∷ bs)) (b ∷ bs))

abbrev pub parts : List ℕ → List (List ℕ)
parts bs = parts_in (length bs) bs

-- the infos of parts, one after the other
unfoldable pub infos_words : List (List ℕ) → List ℕ
infos_words [] = []
infos_words (p ∷ ps) = info_words p ++ infos_words ps

-- begin, end and info address as the call gives them, the number of infos, the infos
unfoldable pub x64_body : ℕ → ℕ → ℕ → List ℕ → List ℕ
x64_body begin end info bs = begin ∷ end ∷ info ∷ length (parts bs) ∷ infos_words (parts bs)

-- ---- refusals

-- of a part: 10, its version is not 1; 11, its bytes end before the header's four or the counted slots
unfoldable pub part_number : List ℕ → ℕ
part_number bs = cond (eqb (version bs) 1) (cond (ltb (length bs) (part_size bs)) 11 0) 10

-- of the first part that is turned away; 0 for none
unfoldable pub first_refused : List (List ℕ) → ℕ
first_refused [] = 0
first_refused (p ∷ ps) = cond (eqb (part_number p) 0) (first_refused ps) (part_number p)

-- 4 for parts not 1 to 32
abbrev pub count_number : ℕ → ℕ
count_number n = cond (leb 1 n && leb n 32) 0 4

-- part by part, then their number
unfoldable pub x64_number : List ℕ → ℕ
x64_number bs =
    cond (eqb (first_refused (parts bs)) 0) (count_number (length (parts bs))) (first_refused (parts bs))

-- and last 9: what the call comes to in a room of that many words
unfoldable pub decoded : List ℕ → ℕ → ℕ → ℕ → ℕ → Fill ℕ
decoded bs begin end info room = cond (eqb (x64_number bs) 0) (roomed room (x64_body begin end info bs)) (refused (x64_number bs))

-- what to unfold where bodies are to compute
unfoldable pub UnwindInfo·open : Type 0
unfolding slot_at long_at codes code_at codes_in codes_of op_words info_words parts_in infos_words x64_body part_number first_refused x64_number decoded
UnwindInfo·open = Unit {0}
