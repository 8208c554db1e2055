-- The sense of a PDB entry (document 01, "Sense"): its WIN lines, each its nine numbers, the flag and the trimmed tail.
-- With the text's definitions it shares what the body's words hold (its ranges and program) and when a body is skipped; that the two agree is proved
-- in Sense/Laws.antt.
use Rattle.std.specs.Prelude.{ℕ, ◌-◌, Bool, false, cond, ◌&&◌, List, [], ◌∷◌, ◌++◌, map, ltb, eqb, Option, Some}
use Rattle.digits.specs.Digits.{hex}
use Rattle.lines.specs.declared.StackInfo.{StackInfo}
use Rattle.lines.specs.Lines.{Line, win}
use Rattle.entry.specs.declared.Last.{Last}
use Rattle.entry.specs.Entry.{no_last, word}
use Rattle.pdb.specs.declared.Range.{Range}
use Rattle.pdb.specs.Pdb.{start_of, end_of, range_at, prologs, codes, program, leaves, pdb_skipped}
pub mod Laws

-- ---- the last earlier body that is not skipped

-- of the bodies before an entry, latest first: type, start, code size and prolog size of the last that is not skipped
unfoldable pub last_unskipped : List (List ℕ) → Option Last
last_unskipped [] = no_last
last_unskipped (b ∷ ds) = cond (pdb_skipped (last_unskipped ds) b) (last_unskipped ds) (Some (leaves b))

-- ---- flag and tail

-- 1 with program and table
unfoldable pub with_program : List ℕ → Bool
with_program ws = cond (eqb (word ws 10) 1) (eqb (word ws 11) 1) false

-- without the spaces in front
unfoldable pub no_front : List ℕ → List ℕ
no_front [] = []
no_front (c ∷ cs) = cond (eqb c 32) (no_front cs) (c ∷ cs)

-- a byte before what is left behind it: a space goes where nothing is left
unfoldable pub before : ℕ → List ℕ → List ℕ
before c [] = cond (eqb c 32) [] (c ∷ [])
before c (d ∷ ds) = c ∷ d ∷ ds

-- without the spaces behind
unfoldable pub no_back : List ℕ → List ℕ
no_back [] = []
no_back (c ∷ cs) = before c (no_back cs)

-- the trimmed program; without a table nothing; with no program the base word
unfoldable pub win_tail : List ℕ → List ℕ
win_tail ws = cond (with_program ws) (no_back (no_front (program ws))) (cond (eqb (word ws 10) 1) [] (hex (word ws 9)))

-- ---- the nine numbers as fields

-- max stack, where there is one, or 0
unfoldable pub most_stack : List ℕ → ℕ
most_stack ws = cond (eqb (word ws 7) 1) (word ws 8) 0

-- those of the line from s up to e, with prolog size p
unfoldable pub fields_of : List ℕ → ℕ → ℕ → ℕ → StackInfo
fields_of ws s e p = record {
  ty = word ws 0;
  start = record { 0 = s };
  code_size = e - s;
  prolog_size = p;
  epilog_size = 0;
  params_size = word ws 4;
  saved_regs_size = word ws 5;
  locals_size = word ws 6;
  max_stack_size = most_stack ws;
}

-- those of a prolog range's line: its prolog size is its length
unfoldable pub prolog_fields : List ℕ → Range → StackInfo
prolog_fields ws r = fields_of ws (start_of r) (end_of r) (end_of r - start_of r)

-- those of a code range's line: prolog size 0
unfoldable pub code_fields : List ℕ → Range → StackInfo
code_fields ws r = fields_of ws (start_of r) (end_of r) 0

-- those of one line over both, its prolog size the prolog range's length
unfoldable pub both_fields : List ℕ → Range → Range → StackInfo
both_fields ws p c = fields_of ws (start_of p) (end_of c) (end_of p - start_of p)

-- behind those that start below it
unfoldable pub placed : StackInfo → List StackInfo → List StackInfo
placed i [] = i ∷ []
placed i (j ∷ js) = cond (ltb j.start.0 i.start.0) (j ∷ placed i js) (i ∷ j ∷ js)

-- by start
unfoldable pub by_start : List StackInfo → List StackInfo
by_start [] = []
by_start (i ∷ is) = placed i (by_start is)

-- one prolog range, ending where the only code range starts
unfoldable pub meets : List ℕ → Bool
meets ws = eqb (word ws 12) 1 && (eqb (word ws 13) 1 && eqb (end_of (range_at ws 15)) (start_of (range_at ws 17)))

-- of one line over both, or else of one for each range: prolog ranges by start, then code ranges by start
unfoldable pub stack_infos : List ℕ → List StackInfo
stack_infos ws = cond (meets ws)
    (both_fields ws (range_at ws 15) (range_at ws 17) ∷ [])
    (by_start (map (prolog_fields ws) (prologs ws)) ++ by_start (map (code_fields ws) (codes ws)))

-- ---- the lines

-- 01, Sense: a WIN line is its fields, flag and trimmed tail
unfoldable pub win_line : List ℕ → StackInfo → Line
win_line ws i = win i (with_program ws) (win_tail ws)

-- 01, Sense: the lines of an entry
unfoldable pub pdb_lines : List ℕ → List Line
pdb_lines ws = map (win_line ws) (stack_infos ws)
