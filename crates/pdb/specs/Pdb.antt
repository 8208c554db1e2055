-- A PDB body (document 01, "PDB body"): its ranges and program from the words, refusals 4 and 6, skipping, and the text of its lines.
-- A body's words are ws; a word that is missing reads 0:
--     0 type, 1 code start, 2 code size, 3 prolog size, 4 params, 5 saved registers, 6 locals, 7 has max stack, 8 max stack, 9 base pointer,
--     10 has program, 11 has string table, 12 prolog range count, 13 code range count, 14 program length,
--     then the prolog ranges, the code ranges and the program's bytes.
use Rattle.std.specs.Prelude.{ℕ, zero, suc, ◌+◌, ◌-◌, ◌*◌, Bool, true, false, not, cond, ◌&&◌, ◌||◌, List, [], ◌∷◌, ◌++◌, reverse, length, ltb, leb, eqb}
use Rattle.std.specs.Prelude.{Option, None, Some, Ok, Err}
use Rattle.text.specs.Text.{ascii}
use Rattle.text.specs.Tests.{all}
use Rattle.digits.specs.Digits.{hex, Digits·open}
use Rattle.refusal.specs.declared.Refusal.TheVariants.{Layout, Reach}
use Rattle.entry.specs.declared.Fate.TheVariants.{Skip, Write}
use Rattle.entry.specs.declared.Last.{Last}
use Rattle.entry.specs.Entry.{Judged, Entry, comes_to, word}
use Rattle.pdb.specs.declared.Range.{Range}

-- ---- ranges and program from words

-- an address is a number of its own kind; these are the numbers
abbrev pub start_of : Range → ℕ
start_of r = r.start.0

-- a range's end
abbrev pub end_of : Range → ℕ
end_of r = r.end.0

-- the range whose words start at i: start, end
unfoldable pub range_at : List ℕ → ℕ → Range
range_at ws i = record { start = record { 0 = word ws i }; end = record { 0 = word ws (i + 1) } }

-- n ranges from word a on
unfoldable pub ranges : List ℕ → ℕ → ℕ → List Range
ranges ws a zero = []
ranges ws a (suc n) = range_at ws a ∷ ranges ws (a + 2) n

-- n words from word a on
unfoldable pub words_from : List ℕ → ℕ → ℕ → List ℕ
words_from ws a zero = []
words_from ws a (suc n) = word ws a ∷ words_from ws (a + 1) n

-- the prolog ranges
unfoldable pub prologs : List ℕ → List Range
prologs ws = ranges ws 15 (word ws 12)

-- the code ranges behind them
unfoldable pub codes : List ℕ → List Range
codes ws = ranges ws (15 + 2 * word ws 12) (word ws 13)

-- the program bytes behind the ranges, one a word
unfoldable pub program : List ℕ → List ℕ
program ws = words_from ws (15 + 2 * word ws 12 + 2 * word ws 13) (word ws 14)

-- ---- refusal 4: ranges of words, and exactly the words that the counts demand

-- type 0 to 4; prolog size and saved registers 16 bits
unfoldable pub sizes_fit : List ℕ → Bool
sizes_fit ws = leb (word ws 0) 4 && (leb (word ws 3) 65535 && leb (word ws 5) 65535)

-- the four "has" and base words are 0 or 1
unfoldable pub flags_fit : List ℕ → Bool
flags_fit ws = leb (word ws 7) 1 && (leb (word ws 9) 1 && (leb (word ws 10) 1 && leb (word ws 11) 1))

-- a program, and the table that it stands in
unfoldable pub has_program : List ℕ → Bool
has_program ws = eqb (word ws 10) 1 && eqb (word ws 11) 1

-- at most 1,024, and 0 unless both are there
unfoldable pub length_fits : List ℕ → Bool
length_fits ws = cond (has_program ws) (leb (word ws 14) 1024) (eqb (word ws 14) 0)

-- at most 16 ranges in each list, at most 1,024 bytes
unfoldable pub counts_fit : List ℕ → Bool
counts_fit ws = leb (word ws 12) 16 && (leb (word ws 13) 16 && length_fits ws)

-- a range does not end before it starts
unfoldable pub range_fits : Range → Bool
range_fits r = leb (start_of r) (end_of r)

-- none of the ranges starts at s
unfoldable pub apart : ℕ → List Range → Bool
apart s [] = true
apart s (r ∷ rs) = not (eqb (start_of r) s) && apart s rs

-- starts differ
unfoldable pub differ : List Range → Bool
differ [] = true
differ (r ∷ rs) = apart (start_of r) rs && differ rs

-- no range ends before it starts; starts differ
unfoldable pub ranges_fit : List Range → Bool
ranges_fit rs = all range_fits rs && differ rs

-- a byte of the program: 32 to 126
unfoldable pub printable : ℕ → Bool
printable c = leb 32 c && leb c 126

-- exactly the words that the counts demand, and ranges and program within their rules
unfoldable pub rest_fits : List ℕ → Bool
rest_fits ws =
    eqb (15 + 2 * word ws 12 + 2 * word ws 13 + word ws 14) (length ws)
    && (ranges_fit (prologs ws) && (ranges_fit (codes ws) && all printable (program ws)))

-- all of it
unfoldable pub pdb_layout : List ℕ → Bool
pdb_layout ws = sizes_fit ws && (flags_fit ws && (counts_fit ws && rest_fits ws))

-- ---- skipping

-- what an entry leaves to the next: type, start, code size, prolog size
unfoldable pub leaves : List ℕ → Last
leaves ws = record { ty = word ws 0; start = record { 0 = word ws 1 }; code_size = word ws 2; prolog_size = word ws 3 }

-- there was a last entry, and the next one has the same
unfoldable pub repeats : Option Last → Last → Bool
repeats None next = false
repeats (Some last) next =
    eqb last.ty next.ty && (eqb last.start.0 next.start.0 && (eqb last.code_size next.code_size && eqb last.prolog_size next.prolog_size))

-- a code size above 7FFFFFFFh, or the same as the last entry not skipped
unfoldable pub pdb_skipped : Option Last → List ℕ → Bool
pdb_skipped last ws = ltb 2147483647 (word ws 2) || repeats last (leaves ws)

-- ---- refusal 6: code start plus prolog size, and plus code size, at most FFFFFFFFh

-- each sum by itself
unfoldable pub in_reach : List ℕ → Bool
in_reach ws = leb (word ws 1 + word ws 3) 4294967295 && leb (word ws 1 + word ws 2) 4294967295

-- ---- one line

-- trimming removes spaces, 32, at both ends
unfoldable pub lead : List ℕ → List ℕ
lead [] = []
lead (c ∷ cs) = cond (eqb c 32) (lead cs) (c ∷ cs)

-- no spaces at both ends
unfoldable pub trim : List ℕ → List ℕ
trim t = reverse (lead (reverse (lead t)))

-- the trimmed program; nothing where there is no table; with no program, the base word
unfoldable pub tail_text : List ℕ → List ℕ
tail_text ws = cond (eqb (word ws 10) 1) (cond (eqb (word ws 11) 1) (trim (program ws)) []) (hex (word ws 9))

-- max stack or 0
unfoldable pub max_stack : List ℕ → ℕ
max_stack ws = cond (eqb (word ws 7) 1) (word ws 8) 0

-- a number in hexadecimal and a space
abbrev pub field : ℕ → List ℕ
field n = hex n ++ ascii " "

-- the nine numbers of the line from s up to e with prolog size p, then the flag (1 with program and table) and a space
unfoldable pub numbers_text : List ℕ → ℕ → ℕ → ℕ → List ℕ
numbers_text ws s e p =
    ascii "STACK WIN " ++ field (word ws 0) ++ field s ++ field (e - s) ++ field p ++ field 0
    ++ field (word ws 4) ++ field (word ws 5) ++ field (word ws 6) ++ field (max_stack ws) ++ cond (has_program ws) (ascii "1 ") (ascii "0 ")

-- that line, with its tail
unfoldable pub range_text : List ℕ → ℕ → ℕ → ℕ → List ℕ
range_text ws s e p = numbers_text ws s e p ++ tail_text ws ++ ascii "\n"

-- ---- the lines

-- by start
unfoldable pub insert : Range → List Range → List Range
insert r [] = r ∷ []
insert r (q ∷ qs) = cond (leb (start_of r) (start_of q)) (r ∷ q ∷ qs) (q ∷ insert r qs)

-- by start
unfoldable pub sorted : List Range → List Range
sorted [] = []
sorted (r ∷ rs) = insert r (sorted rs)

-- the prolog size of a range's line: its length, or for a code range 0
unfoldable pub prolog_of : Bool → Range → ℕ
prolog_of prolog r = cond prolog (end_of r - start_of r) 0

-- a line for each range
unfoldable pub ranges_text : List ℕ → Bool → List Range → List ℕ
ranges_text ws prolog [] = []
ranges_text ws prolog (r ∷ rs) = range_text ws (start_of r) (end_of r) (prolog_of prolog r) ++ ranges_text ws prolog rs

-- one prolog range, ending where the only code range starts
unfoldable pub contiguous : List Range → List Range → Bool
contiguous [] cs = false
contiguous (p ∷ []) [] = false
contiguous (p ∷ []) (c ∷ []) = eqb (end_of p) (start_of c)
contiguous (p ∷ []) (c ∷ d ∷ cs) = false
contiguous (p ∷ q ∷ ps) cs = false

-- one line over both, its prolog size the prolog range's length
unfoldable pub both_text : List ℕ → Range → Range → List ℕ
both_text ws p c = range_text ws (start_of p) (end_of c) (end_of p - start_of p)

-- the lines of an entry: one over both, or else one for each range, prologs first
unfoldable pub pdb_text : List ℕ → List ℕ
pdb_text ws = cond (contiguous (prologs ws) (codes ws))
    (both_text ws (range_at ws 15) (range_at ws 17))
    (ranges_text ws true (sorted (prologs ws)) ++ ranges_text ws false (sorted (codes ws)))

-- ---- one entry: 4, skipping, 6; it leaves its own words to the next where it is written

-- 4, skipping, then 6
unfoldable pub pdb_judged : Option Last → List ℕ → Judged
pdb_judged last ws = cond (pdb_layout ws) (cond (pdb_skipped last ws) (Ok Skip) (cond (in_reach ws) (Ok Write) (Err Reach))) (Err Layout)

-- an entry that is written is the last one for the next
unfoldable pub pdb_entry : Option Last → List ℕ → Entry
pdb_entry last ws = comes_to (pdb_judged last ws) (pdb_text ws) last (Some (leaves ws))

-- what to unfold where PDB entries are to compute
unfoldable pub Pdb·open : Type 0
unfolding Digits·open range_at ranges words_from prologs codes program sizes_fit flags_fit has_program length_fits counts_fit range_fits apart differ
    ranges_fit printable rest_fits pdb_layout leaves repeats pdb_skipped in_reach lead trim tail_text max_stack numbers_text range_text insert sorted prolog_of
    ranges_text contiguous both_text pdb_text pdb_judged pdb_entry
Pdb·open = Unit {0}
