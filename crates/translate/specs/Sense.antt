-- The sense of a book (document 01, "Sense"): the lines of its entries in order, worked out from the bodies that are not skipped. A kind adds its
-- skipping to `skipped` and its lines to `lines_of`.
use Rattle.std.specs.Prelude.{List, [], ◌∷◌, ◌++◌, Bool, cond, ℕ, ◌+◌, take, eqb}
use Rattle.lines.specs.Lines.{Line}
use Rattle.book.specs.Book.{kind, bodies}
use Rattle.x64.specs.X64.{x64_skipped}
use Rattle.arm64.specs.Arm64.{arm_skipped}
use Rattle.dwarf.specs.Dwarf.{dwarf_skipped}
use Rattle.pdb.specs.Pdb.{pdb_skipped}
use Rattle.x64.specs.Sense.{x64_lines}
use Rattle.arm64.specs.Sense.{arm_lines}
use Rattle.dwarf.specs.Sense.{dwarf_lines}
use Rattle.pdb.specs.Sense.{last_unskipped, pdb_lines}
use Rattle.translate.specs.Outcome.{Outcome}

-- ---- the sense

-- is this body skipped under the limit, behind the bodies ds, latest first
unfoldable pub skipped : ℕ → ℕ → List (List ℕ) → List ℕ → Bool
skipped kind limit ds body =
    cond (eqb kind 2) (arm_skipped body) (cond (eqb kind 3) (dwarf_skipped body) (cond (eqb kind 4) (pdb_skipped (last_unskipped ds) body) (x64_skipped limit body)))

-- the lines of an entry, from its body's words
unfoldable pub lines_of : ℕ → List ℕ → List Line
lines_of kind body = cond (eqb kind 2) (arm_lines body) (cond (eqb kind 3) (dwarf_lines body) (cond (eqb kind 4) (pdb_lines body) (x64_lines body)))

-- the lines of the entries from here on, behind the bodies ds, latest first
unfoldable pub sense_from : ℕ → ℕ → List (List ℕ) → List (List ℕ) → List Line
sense_from k l ds [] = []
sense_from k l ds (b ∷ bs) = cond (skipped k l ds b) [] (lines_of k b) ++ sense_from k l (b ∷ ds) bs

-- the lines of a book's entries in order
unfoldable pub sense : List ℕ → ℕ → List Line
sense b l = sense_from (kind b) l [] (bodies b)

-- how many of these x64 bodies are not skipped: each has one line
unfoldable pub unskipped : ℕ → List (List ℕ) → ℕ
unskipped l [] = 0
unskipped l (w ∷ ws) = cond (x64_skipped l w) 0 1 + unskipped l ws

-- whether a kind's later lines begin with six spaces
unfoldable pub six_spaces : ℕ → Bool
six_spaces kind = eqb kind 2

-- the text: the text buffer's bytes up to the returned length
abbrev pub text_of : Outcome → List ℕ
text_of o = take o.length o.text
