-- A DWARF body (document 01, "DWARF body"): its rows from the words, refusals 4 and 6, skipping, and its text in bytes, as the rows are run.
-- A body's words are ws; a word that is missing reads 0.
use Rattle.std.specs.Prelude.{ℕ, zero, suc, ◌+◌, ◌-◌, ◌*◌, ◌^◌, Bool, true, false, not, cond, ◌&&◌, ◌||◌, List, [], ◌∷◌, ◌++◌, length, ℤ, pos, negsuc, ltb, leb, eqb, Option, Ok, Err}
use Rattle.text.specs.Text.{ascii}
use Rattle.text.specs.Tests.{any}
use Rattle.digits.specs.Digits.{hex, signed, Digits·open}
use Rattle.tables.specs.Tables.{listed_name, table, i386, x86_64, arm, ppc, mips}
use Rattle.names.specs.Names.{arm64_cfi_name, cfi_name}
use Rattle.entry.specs.declared.Last.{Last}
use Rattle.refusal.specs.declared.Refusal.TheVariants.{Layout, Reach}
use Rattle.entry.specs.declared.Fate.TheVariants.{Skip, Write}
use Rattle.entry.specs.Entry.{Entry, Judged, comes_to, word}
use Rattle.dwarf.specs.declared.RegisterRule.{RegisterRule}
use Rattle.dwarf.specs.declared.CfaRule.{CfaRule}
use Rattle.dwarf.specs.declared.CfaRule.TheVariants.{RegisterPlus, Expression}
use Rattle.dwarf.specs.declared.Fde.{Fde}

-- ---- rows from words

-- two words, the low one first
unfoldable pub wide : List ℕ → ℕ → ℕ
wide ws i = word ws i + word ws (i + 1) * 2 ^ 32

-- 64 bits in two's complement
unfoldable pub twos : ℕ → ℤ
twos v = cond (ltb v (2 ^ 63)) (pos v) (negsuc (2 ^ 64 - 1 - v))

-- kinds 1 to 3 use their value; one that is not used counts as 0
unfoldable pub used_value : ℕ → ℕ → ℕ
used_value k v = cond (leb 1 k && leb k 3) v 0

-- the rule at word a: register, kind, value
unfoldable pub rule_at : List ℕ → ℕ → RegisterRule
rule_at ws a = record { register = word ws a; kind = word ws (a + 1); value = used_value (word ws (a + 1)) (wide ws (a + 2)) }

-- n rules from word a on
unfoldable pub rules_from : List ℕ → ℕ → ℕ → List RegisterRule
rules_from ws zero a = []
rules_from ws (suc n) a = rule_at ws a ∷ rules_from ws n (a + 4)

-- the CFA of the row at word a: register and offset (kind 0), or an expression (kind 1), which uses neither
unfoldable pub cfa_at : List ℕ → ℕ → CfaRule
cfa_at ws a = cond (eqb (word ws (a + 4)) 0) (RegisterPlus (word ws (a + 5)) (wide ws (a + 6))) Expression

-- start, end, CFA, rules
pub record Row : Type 0 where
  pub start : ℕ
  pub end : ℕ
  pub cfa : CfaRule
  pub rules : List RegisterRule

-- the ninth word of a row: its rule count
abbrev pub rule_count : List ℕ → ℕ → ℕ
rule_count ws a = word ws (a + 8)

-- where the row behind that at word a starts
abbrev pub next_row : List ℕ → ℕ → ℕ
next_row ws a = a + 9 + 4 * rule_count ws a

-- the row at word a
abbrev pub row_at : List ℕ → ℕ → Row
row_at ws a = record { start = wide ws a; end = wide ws (a + 2); cfa = cfa_at ws a; rules = rules_from ws (rule_count ws a) (a + 9) }

-- m rows from word a on
unfoldable pub rows_from : List ℕ → ℕ → ℕ → List Row
rows_from ws zero a = []
rows_from ws (suc m) a = row_at ws a ∷ rows_from ws m (next_row ws a)

-- word 6: the row count
abbrev pub row_count : List ℕ → ℕ
row_count ws = word ws 6

-- all rows of a body
unfoldable pub rows : List ℕ → List Row
rows ws = rows_from ws (row_count ws) 7

-- words 3 and 4: the load address
abbrev pub load_address : List ℕ → ℕ
load_address ws = wide ws 3

-- the first row's start
unfoldable pub first_start : List Row → ℕ
first_start [] = 0
first_start (w ∷ ws) = w.start

-- the last row's end; e where there is none
unfoldable pub last_end : ℕ → List Row → ℕ
last_end e [] = e
last_end e (w ∷ ws) = last_end w.end ws

-- what holds for all of an entry's rows
unfoldable pub fde_of : List ℕ → Fde
fde_of ws = record {
  family = word ws 0;
  ra = word ws 5;
  load = load_address ws;
  start = first_start (rows ws);
  length = last_end 0 (rows ws) - first_start (rows ws);
}

-- ---- refusal 4: ranges, and exactly the words that the counts demand

-- the registers that rules name
unfoldable pub registers : List RegisterRule → List ℕ
registers [] = []
registers (x ∷ xs) = x.register ∷ registers xs

-- is r among them
unfoldable pub member : ℕ → List ℕ → Bool
member r [] = false
member r (q ∷ qs) = eqb q r || member r qs

-- no register twice
unfoldable pub once : List ℕ → Bool
once [] = true
once (r ∷ rs) = not (member r rs) && once rs

-- how many registers there are that were not met before
unfoldable pub distinct : List ℕ → List ℕ → ℕ
distinct met [] = 0
distinct met (r ∷ rs) = cond (member r met) 0 1 + distinct (r ∷ met) rs

-- kinds 0 to 4; the value of kind 3 is a register
unfoldable pub rule_fits : List ℕ → ℕ → Bool
rule_fits ws a = ltb (word ws a) 65536 && cond (eqb (word ws (a + 1)) 3) (ltb (wide ws (a + 2)) 65536) (leb (word ws (a + 1)) 4)

-- n rules from word a on
unfoldable pub rules_fit : List ℕ → ℕ → ℕ → Bool
rules_fit ws zero a = true
rules_fit ws (suc n) a = rule_fits ws a && rules_fit ws n (a + 4)

-- kind 0 with a register, or 1
unfoldable pub cfa_fits : List ℕ → ℕ → Bool
cfa_fits ws a = cond (eqb (word ws (a + 4)) 0) (ltb (word ws (a + 5)) 65536) (eqb (word ws (a + 4)) 1)

-- at most 64 rules, no register twice
unfoldable pub row_fits : List ℕ → ℕ → Bool
row_fits ws a =
    (cfa_fits ws a && leb (rule_count ws a) 64)
    && (rules_fit ws (rule_count ws a) (a + 9) && once (registers (rules_from ws (rule_count ws a) (a + 9))))

-- m rows from word a on, and nothing behind them
unfoldable pub rows_fit : List ℕ → ℕ → ℕ → Bool
rows_fit ws zero a = eqb a (length ws)
rows_fit ws (suc m) a = row_fits ws a && rows_fit ws m (next_row ws a)

-- the rules of all rows
unfoldable pub rules_of : List Row → List RegisterRule
rules_of [] = []
rules_of (w ∷ ws) = w.rules ++ rules_of ws

-- family, return register and row count
unfoldable pub head_fits : List ℕ → Bool
head_fits ws = leb (word ws 0) 10 && (ltb (word ws 5) 65536 && leb (row_count ws) 1024)

-- at most 64 distinct registers in a body
unfoldable pub dwarf_layout : List ℕ → Bool
dwarf_layout ws = head_fits ws && (rows_fit ws (row_count ws) 7 && leb (distinct [] (registers (rules_of (rows ws)))) 64)

-- ---- skipping, refusal 6

-- initial address all ones, no rows, or the first start below load
unfoldable pub dwarf_skipped : List ℕ → Bool
dwarf_skipped ws = eqb (wide ws 1) (2 ^ 64 - 1) || (eqb (row_count ws) 0 || ltb (first_start (rows ws)) (load_address ws))

-- a row that is not at the first start and starts below load
unfoldable pub any_below : ℕ → ℕ → List Row → Bool
any_below first load [] = false
any_below first load (w ∷ ws) = (not (eqb w.start first) && ltb w.start load) || any_below first load ws

-- the last end is not below the first start, and there is no such row
unfoldable pub dwarf_reach : List ℕ → Bool
dwarf_reach ws = not (ltb (last_end 0 (rows ws)) (first_start (rows ws)) || any_below (first_start (rows ws)) (load_address ws) (rows ws))

-- 4, skipping, then 6
unfoldable pub dwarf_judged : List ℕ → Judged
dwarf_judged ws = cond (dwarf_layout ws) (cond (dwarf_skipped ws) (Ok Skip) (cond (dwarf_reach ws) (Ok Write) (Err Reach))) (Err Layout)

-- ---- what a rule and a CFA write, in bytes: none where a name lacks. An empty name is none.

-- behind the colon: Q for same (0) and register (3), ".cfa N + ^" for offset (1), ".cfa N +" for value offset (2), nothing for other
unfoldable pub form_bytes : ℕ → RegisterRule → List ℕ
form_bytes f x =
    cond (eqb x.kind 0) (cfi_name f x.register) (cond (eqb x.kind 1) (ascii ".cfa " ++ signed (twos x.value) ++ ascii " + ^")
    (cond (eqb x.kind 2) (ascii ".cfa " ++ signed (twos x.value) ++ ascii " +") (cond (eqb x.kind 3) (cfi_name f x.value) [])))

-- " R: Q"; a rule lacking a name is not written, nor one with nothing behind the colon
unfoldable pub named_bytes : List ℕ → List ℕ → List ℕ
named_bytes n t = cond (any n && any t) (ascii " " ++ n ++ ascii ": " ++ t) []

-- R is .ra for the return register
unfoldable pub rule_bytes : ℕ → ℕ → RegisterRule → List ℕ
rule_bytes f ra x = named_bytes (cond (eqb x.register ra) (ascii ".ra") (cfi_name f x.register)) (form_bytes f x)

-- " .cfa: R N +"; an expression writes nothing
unfoldable pub cfa_bytes : ℕ → CfaRule → List ℕ
cfa_bytes f (RegisterPlus r o) = cond (any (cfi_name f r)) (ascii " .cfa: " ++ cfi_name f r ++ (ascii " " ++ signed (twos o) ++ ascii " +")) []
cfa_bytes f Expression = []

-- families 3 to 9 add " .ra: Q" with the return register's name, if any
unfoldable pub ra_bytes : ℕ → ℕ → List ℕ
ra_bytes f ra = cond ((leb 3 f && leb f 9) && any (cfi_name f ra)) (ascii " .ra: " ++ cfi_name f ra) []

-- ---- a row's line: its rules' bytes are ts, and `moved` says that the return register's rule changed

-- the default: at the first start, where the return register's rule did not change
unfoldable pub default_bytes : Fde → ℕ → Bool → List ℕ
default_bytes e start moved = cond (eqb start e.start && not moved) (ra_bytes e.family e.ra) []

-- INIT, with the size, at the first start; addresses less the load address
unfoldable pub start_bytes : Fde → ℕ → List ℕ
start_bytes e start =
    cond (eqb start e.start) (ascii "STACK CFI INIT " ++ hex (start - e.load) ++ ascii " " ++ hex e.length) (ascii "STACK CFI " ++ hex (start - e.load))

-- the line with its newline
unfoldable pub line_bytes : Fde → ℕ → List ℕ → Bool → List ℕ
line_bytes e start ts moved = start_bytes e start ++ ts ++ default_bytes e start moved ++ ascii "\n"

-- a line with nothing else written is dropped
unfoldable pub row_bytes : Fde → ℕ → List ℕ → Bool → List ℕ
row_bytes e start ts moved = cond (any ts) (line_bytes e start ts moved) []

-- ---- the rows as they are run: the CFA last seen, and the rules last seen, by register

-- of a register: nothing yet, or kind and value
pub data Seen : Type 0 where
  never : Seen
  seen : ℕ → ℕ → Seen

-- a kind and value differ from what was last seen
abbrev pub differs : Seen → ℕ → ℕ → Bool
differs never k v = true
differs (seen k₀ v₀) k v = not (eqb k₀ k && eqb v₀ v)

-- of the CFA: nothing yet, or the last one
pub data CfaSeen : Type 0 where
  no_cfa : CfaSeen
  last_cfa : CfaRule → CfaSeen

-- two CFAs are one
abbrev pub same_cfa : CfaRule → CfaRule → Bool
same_cfa (RegisterPlus r o) (RegisterPlus q p) = eqb r q && eqb o p
same_cfa (RegisterPlus r o) Expression = false
same_cfa Expression (RegisterPlus q p) = false
same_cfa Expression Expression = true

-- the CFA is treated alike
abbrev pub cfa_differs : CfaSeen → CfaRule → Bool
cfa_differs no_cfa x = true
cfa_differs (last_cfa y) x = not (same_cfa y x)

-- register r now has kind k and value v
abbrev pub remembered : (ℕ → Seen) → ℕ → ℕ → ℕ → (ℕ → Seen)
remembered c r k v = λ q. cond (eqb r q) (seen k v) (c q)

-- a rule is remembered, written or not
abbrev pub remember : (ℕ → Seen) → RegisterRule → (ℕ → Seen)
remember c x = remembered c x.register x.kind x.value

-- what is seen after a row's rules
unfoldable pub seen_after : (ℕ → Seen) → List RegisterRule → ℕ → Seen
seen_after c [] = c
seen_after c (x ∷ xs) = seen_after (remember c x) xs

-- what they write, one after the other
unfoldable pub ran_rules : ℕ → ℕ → (ℕ → Seen) → List RegisterRule → List ℕ
ran_rules f ra c [] = []
ran_rules f ra c (x ∷ xs) = cond (differs (c x.register) x.kind x.value) (rule_bytes f ra x) [] ++ ran_rules f ra (remember c x) xs

-- whether the return register's rule changes
unfoldable pub ran_moved : ℕ → (ℕ → Seen) → List RegisterRule → Bool
ran_moved ra c [] = false
ran_moved ra c (x ∷ xs) = (eqb x.register ra && differs (c x.register) x.kind x.value) || ran_moved ra (remember c x) xs

-- a row's CFA, where it changed, then its rules
unfoldable pub ran_of : Fde → CfaSeen → (ℕ → Seen) → Row → List ℕ
ran_of e s c w = cond (cfa_differs s w.cfa) (cfa_bytes e.family w.cfa) [] ++ ran_rules e.family e.ra c w.rules

-- a row against what was last seen
unfoldable pub ran_row : Fde → CfaSeen → (ℕ → Seen) → Row → List ℕ
ran_row e s c w = row_bytes e w.start (ran_of e s c w) (ran_moved e.ra c w.rules)

-- all rows, each against what those before left
unfoldable pub ran_rows : Fde → CfaSeen → (ℕ → Seen) → List Row → List ℕ
ran_rows e s c [] = []
ran_rows e s c (w ∷ ws) = ran_row e s c w ++ ran_rows e (last_cfa w.cfa) (seen_after c w.rules) ws

-- before the first row
unfoldable pub nothing_seen : ℕ → Seen
nothing_seen q = never

-- the text of all rows
unfoldable pub dwarf_text : List ℕ → List ℕ
dwarf_text ws = ran_rows (fde_of ws) no_cfa nothing_seen (rows ws)

-- DWARF passes on what was left to it
unfoldable pub dwarf_entry : Option Last → List ℕ → Entry
dwarf_entry last ws = comes_to (dwarf_judged ws) (dwarf_text ws) last last

-- what to unfold where DWARF entries are to compute
unfoldable pub Dwarf·open : Type 0
unfolding Digits·open arm64_cfi_name cfi_name listed_name table i386 x86_64 arm ppc mips wide twos used_value rule_at rules_from cfa_at rows_from rows first_start last_end fde_of
    registers member once distinct rule_fits rules_fit cfa_fits row_fits rows_fit rules_of head_fits dwarf_layout dwarf_skipped any_below dwarf_reach dwarf_judged
    any form_bytes named_bytes rule_bytes cfa_bytes ra_bytes default_bytes start_bytes line_bytes row_bytes seen_after ran_rules ran_moved ran_of ran_row ran_rows
    nothing_seen dwarf_text dwarf_entry
Dwarf·open = Unit {0}
