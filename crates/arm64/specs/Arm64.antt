-- An ARM64 body (document 01, "ARM64 body"): its operations from the words, refusals 4 and 6, skipping, and its text as the operations are run.
-- A body's words are ws; a word that is missing reads 0.
use Rattle.std.specs.Prelude.{ℕ, zero, suc, ◌+◌, ◌*◌, ◌^◌, Bool, true, false, not, cond, ◌&&◌, ◌||◌, List, [], ◌∷◌, ◌++◌, reverse, length, pos, Option, Ok, Err, ltb, leb, eqb}
use Rattle.std.proofs.Math.IntN.{sub_ℕ}
use Rattle.text.specs.Text.{ascii}
use Rattle.digits.specs.Digits.{hex, signed, Digits·open}
use Rattle.names.specs.Names.{letter_of, arm64_name}
use Rattle.lines.specs.Reach.{inside}
use Rattle.refusal.specs.declared.Refusal.TheVariants.{Layout, Reach}
use Rattle.entry.specs.declared.Fate.TheVariants.{Skip, Write}
use Rattle.entry.specs.declared.Last.{Last}
use Rattle.entry.specs.Entry.{Judged, Entry, comes_to, word}
use Rattle.arm64.specs.declared.Op.{Op}
use Rattle.arm64.specs.declared.Op.TheVariants.{AllocStack, SaveReg, SaveRegPreindexed, SaveRegPair, SaveRegPairPreindexed, SaveLrPair, SaveNext, Other, End, Undecodable}
use Rattle.arm64.specs.declared.Saved.{Saved}
use Rattle.arm64.specs.declared.Saves.{Saves}
use Rattle.arm64.specs.declared.Saves.TheVariants.{Nothing, Alone, Paired}

-- ---- operations from words

-- kinds 1 to 10 (8 other)
unfoldable pub op_of : ℕ → ℕ → ℕ → ℕ → Op
op_of k l r v =
    cond (eqb k 1) (AllocStack v) (cond (eqb k 2) (SaveReg l r v) (cond (eqb k 3) (SaveRegPreindexed l r v) (cond (eqb k 4) (SaveRegPair l r v)
    (cond (eqb k 5) (SaveRegPairPreindexed l r v) (cond (eqb k 6) (SaveLrPair r v) (cond (eqb k 7) SaveNext (cond (eqb k 9) End (cond (eqb k 10) Undecodable Other))))))))

-- and back: kind, letter, register, value, 0 where it does not use them
unfoldable pub words_of : Op → List ℕ
words_of (AllocStack v) = 1 ∷ 0 ∷ 0 ∷ v ∷ []
words_of (SaveReg l r v) = 2 ∷ l ∷ r ∷ v ∷ []
words_of (SaveRegPreindexed l r v) = 3 ∷ l ∷ r ∷ v ∷ []
words_of (SaveRegPair l r v) = 4 ∷ l ∷ r ∷ v ∷ []
words_of (SaveRegPairPreindexed l r v) = 5 ∷ l ∷ r ∷ v ∷ []
words_of (SaveLrPair r v) = 6 ∷ 0 ∷ r ∷ v ∷ []
words_of SaveNext = 7 ∷ 0 ∷ 0 ∷ 0 ∷ []
words_of Other = 8 ∷ 0 ∷ 0 ∷ 0 ∷ []
words_of End = 9 ∷ 0 ∷ 0 ∷ 0 ∷ []
words_of Undecodable = 10 ∷ 0 ∷ 0 ∷ 0 ∷ []

-- those of n operations from word a on that stand before the first end, in stored order
unfoldable pub counting : List ℕ → ℕ → ℕ → List Op
counting ws a zero = []
counting ws a (suc n) = cond (eqb (word ws a) 9) [] (op_of (word ws a) (word ws (a + 1)) (word ws (a + 2)) (word ws (a + 3)) ∷ counting ws (a + 4) n)

-- word 2: the operation count
abbrev pub op_count : List ℕ → ℕ
op_count ws = word ws 2

-- the operations in the order in which they are run
unfoldable pub ops : List ℕ → List Op
ops ws = reverse (counting ws 3 (op_count ws))

-- ---- what an operation does, where the total before it is T and the last pair's second register p

-- how far a pair's second lies above its first: 8 (q: 16)
unfoldable pub width : ℕ → ℕ
width l = cond (ltb l 2) 8 16

-- the register behind it, right above
unfoldable pub above : Saved → Saved
above p = record { letter = p.letter; register = p.register + 1; a = p.a + width p.letter; b = p.b }

-- a register with its place a - b
abbrev pub saved : ℕ → ℕ → ℕ → ℕ → Saved
saved l r x y = record { letter = l; register = r; a = x; b = y }

-- T grows by an allocation's value, and by that of a pre-indexed save
unfoldable pub growth_of : Op → ℕ
growth_of (AllocStack v) = v
growth_of (SaveReg l r v) = 0
growth_of (SaveRegPreindexed l r v) = v
growth_of (SaveRegPair l r v) = 0
growth_of (SaveRegPairPreindexed l r v) = v
growth_of (SaveLrPair r v) = 0
growth_of SaveNext = 0
growth_of Other = 0
growth_of End = 0
growth_of Undecodable = 0

-- an allocation writes the CFA, so does a pre-indexed save; other is an allocation of 0
unfoldable pub writes_cfa : Op → Bool
writes_cfa (AllocStack v) = true
writes_cfa (SaveReg l r v) = false
writes_cfa (SaveRegPreindexed l r v) = true
writes_cfa (SaveRegPair l r v) = false
writes_cfa (SaveRegPairPreindexed l r v) = true
writes_cfa (SaveLrPair r v) = false
writes_cfa SaveNext = false
writes_cfa Other = true
writes_cfa End = false
writes_cfa Undecodable = false

-- a pair's second lies above its first
abbrev pub pair_from : Saved → Saves
pair_from q = Paired q (above q)

-- places are value - T, or -value - T where pre-indexed; kind 6 is x register and x30 as a pair; save-next continues from p
unfoldable pub saves : ℕ → Saved → Op → Saves
saves T p (AllocStack v) = Nothing
saves T p (SaveReg l r v) = Alone (saved l r v T)
saves T p (SaveRegPreindexed l r v) = Alone (saved l r 0 (T + v))
saves T p (SaveRegPair l r v) = pair_from (saved l r v T)
saves T p (SaveRegPairPreindexed l r v) = pair_from (saved l r 0 (T + v))
saves T p (SaveLrPair r v) = Paired (saved 0 r v T) (saved 0 30 (v + 8) T)
saves T p SaveNext = pair_from (above p)
saves T p Other = Nothing
saves T p End = Nothing
saves T p Undecodable = Nothing

-- save-next continues at first from x0 and place 0
abbrev pub no_pair : Saved
no_pair = saved 0 0 0 0

-- and then from the second of the last of kinds 4, 5 and 7
unfoldable pub last_after : ℕ → Saved → Op → Saved
last_after T p (AllocStack v) = p
last_after T p (SaveReg l r v) = p
last_after T p (SaveRegPreindexed l r v) = p
last_after T p (SaveRegPair l r v) = above (saved l r v T)
last_after T p (SaveRegPairPreindexed l r v) = above (saved l r 0 (T + v))
last_after T p (SaveLrPair r v) = p
last_after T p SaveNext = above (above p)
last_after T p Other = p
last_after T p End = p
last_after T p Undecodable = p

-- x30, the link register
abbrev pub is_lr : Saved → Bool
is_lr p = eqb p.letter 0 && eqb p.register 30

-- .ra is added for x30 as a pair's second
unfoldable pub writes_ra : Saves → Bool
writes_ra Nothing = false
writes_ra (Alone p) = false
writes_ra (Paired p q) = is_lr q

-- ---- the text, in bytes

-- ".cfa N + ^": what stands at CFA + place, the place a - b
abbrev pub place_text : ℕ → ℕ → List ℕ
place_text a b = ascii ".cfa " ++ signed (sub_ℕ a b) ++ ascii " + ^"

-- a saved register, " .x29: .cfa N + ^"
unfoldable pub saved_text : Saved → List ℕ
saved_text p = ascii " " ++ arm64_name p.letter p.register ++ ascii ": " ++ place_text p.a p.b

-- an allocation writes " .cfa: .sp T +"
unfoldable pub cfa_text : ℕ → List ℕ
cfa_text T = ascii " .cfa: .sp " ++ signed (pos T) ++ ascii " +"

-- .ra where x30 lies
unfoldable pub ra_text : Saved → List ℕ
ra_text p = ascii " .ra: " ++ place_text p.a p.b

-- bytes that may be there
abbrev pub given : Bool → List ℕ → List ℕ
given t bs = cond t bs []

-- the registers in order, then .ra
unfoldable pub saves_text : Saves → List ℕ
saves_text Nothing = []
saves_text (Alone p) = saved_text p
saves_text (Paired p q) = saved_text p ++ saved_text q ++ given (is_lr q) (ra_text q)

-- what an operation writes: the CFA first, with T after it
unfoldable pub op_text : ℕ → Saved → Op → List ℕ
op_text T p o = given (writes_cfa o) (cfa_text (T + growth_of o)) ++ saves_text (saves T p o)

-- defaults, if the CFA or .ra is unwritten
unfoldable pub defaults_text : Bool → Bool → List ℕ
defaults_text cfa ra = given (not cfa) (ascii " .cfa: .sp") ++ given (not ra) (ascii " .ra: .x30")

-- line 0: INIT, address, size; it ends with the defaults
unfoldable pub first_line : ℕ → ℕ → List ℕ → List ℕ → List ℕ
first_line a z rules defaults = ascii "STACK CFI INIT " ++ hex a ++ ascii " " ++ hex z ++ rules ++ defaults ++ ascii "\n"

-- after the first "STACK CFI" has six spaces
unfoldable pub later_line : ℕ → List ℕ → List ℕ
later_line a rules = ascii "STACK CFI      " ++ hex a ++ rules ++ ascii "\n"

-- line i of a function at address a of size z is at address + 4i
unfoldable pub nth_line : ℕ → ℕ → ℕ → List ℕ → List ℕ → List ℕ
nth_line a z zero rules defaults = first_line a z rules defaults
nth_line a z (suc i) rules defaults = later_line (a + 4 * suc i) rules

-- the lines from line i on, where T and p are those before it
unfoldable pub run : ℕ → ℕ → ℕ → ℕ → Saved → List Op → List ℕ
run a z i T p [] = []
run a z i T p (o ∷ os) =
    nth_line a z i (op_text T p o) (defaults_text (writes_cfa o) (writes_ra (saves T p o))) ++ run a z (suc i) (T + growth_of o) (last_after T p o) os

-- the text of an entry: T starts at 0
unfoldable pub arm_text : List ℕ → List ℕ
arm_text ws = run (word ws 0) (word ws 1) 0 0 no_pair (ops ws)

-- ---- refusal 4: ranges, and exactly the words that the counts demand

-- the register of a kind that uses one is 0 to 255; a letter has no range
unfoldable pub op_fits : ℕ → ℕ → Bool
op_fits k r = cond (leb 2 k && leb k 6) (leb r 255) (leb 1 k && leb k 10)

-- n operations from word a on, and nothing behind them
unfoldable pub ops_fit : List ℕ → ℕ → ℕ → Bool
ops_fit ws a zero = eqb a (length ws)
ops_fit ws a (suc n) = op_fits (word ws a) (word ws (a + 2)) && ops_fit ws (a + 4) n

-- at most 1,024 operations
unfoldable pub arm_layout : List ℕ → Bool
arm_layout ws = leb (op_count ws) 1024 && ops_fit ws 3 (op_count ws)

-- ---- skipping: an undecodable one, kind 10, before the first end, kind 9, of n operations from word a on

-- such an operation skips the entry
unfoldable pub undecodable : List ℕ → ℕ → ℕ → Bool
undecodable ws a zero = false
undecodable ws a (suc n) = cond (eqb (word ws a) 9) false (eqb (word ws a) 10 || undecodable ws (a + 4) n)

-- in a body: such an operation among those that count
unfoldable pub arm_skipped : List ℕ → Bool
arm_skipped ws = undecodable ws 3 (op_count ws)

-- ---- refusal 6

-- the value that an operation uses
unfoldable pub value_of : Op → ℕ
value_of (AllocStack v) = v
value_of (SaveReg l r v) = v
value_of (SaveRegPreindexed l r v) = v
value_of (SaveRegPair l r v) = v
value_of (SaveRegPairPreindexed l r v) = v
value_of (SaveLrPair r v) = v
value_of SaveNext = 0
value_of Other = 0
value_of End = 0
value_of Undecodable = 0

-- a register that is saved is at most 255 and its place inside signed 32 bits
unfoldable pub saved_fits : Saved → Bool
saved_fits p = inside (sub_ℕ p.a p.b) && leb p.register 255

-- each that an operation saves
unfoldable pub saves_fit : Saves → Bool
saves_fit Nothing = true
saves_fit (Alone p) = saved_fits p
saves_fit (Paired p q) = saved_fits p && saved_fits q

-- the value used, the total, the registers and their places, and the line's address
unfoldable pub fits : ℕ → ℕ → Saved → Op → Bool
fits address T p o = ltb (value_of o) (2 ^ 31) && (inside (pos (T + growth_of o)) && (saves_fit (saves T p o) && ltb address (2 ^ 32)))

-- every line from line i on is in reach
unfoldable pub in_reach : ℕ → ℕ → ℕ → Saved → List Op → Bool
in_reach a i T p [] = true
in_reach a i T p (o ∷ os) = fits (a + 4 * i) T p o && in_reach a (suc i) (T + growth_of o) (last_after T p o) os

-- ---- one entry: 4, skipping, 6

-- 4, skipping, then 6
unfoldable pub arm_judged : List ℕ → Judged
arm_judged ws =
    cond (arm_layout ws) (cond (arm_skipped ws) (Ok Skip) (cond (in_reach (word ws 0) 0 0 no_pair (ops ws)) (Ok Write) (Err Reach))) (Err Layout)

-- ARM64 passes on what was left to it
unfoldable pub arm_entry : Option Last → List ℕ → Entry
arm_entry last ws = comes_to (arm_judged ws) (arm_text ws) last last

-- what to unfold where ARM64 entries are to compute
unfoldable pub Arm64·open : Type 0
unfolding Digits·open letter_of arm64_name inside op_of counting ops width above growth_of writes_cfa saves last_after writes_ra saved_text cfa_text ra_text
    saves_text op_text defaults_text first_line later_line nth_line run arm_text op_fits ops_fit arm_layout undecodable arm_skipped value_of saved_fits saves_fit
    fits in_reach arm_judged arm_entry
Arm64·open = Unit {0}
