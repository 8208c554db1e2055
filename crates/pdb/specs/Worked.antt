-- Worked PDB bodies, as one table: what document 01 makes of each, by hand.
use Rattle.std.specs.Prelude.{ℕ, Bool, true, false, cond, ◌&&◌, List, [], ◌∷◌, ◌++◌, T, eqb, Option, None, Some}
use Rattle.text.specs.Text.{ascii}
use Rattle.text.specs.Tests.{all, eqw}
use Rattle.lines.specs.Lines.{Line, render, Lines·open}
use Rattle.entry.specs.declared.Last.{Last}
use Rattle.entry.specs.Entry.{no_last}
use Rattle.pdb.specs.Pdb.{pdb_skipped, pdb_entry, Pdb·open}
use Rattle.pdb.specs.Sense.{with_program, no_front, before, no_back, win_tail, most_stack, fields_of, prolog_fields, code_fields, both_fields}
use Rattle.pdb.specs.Sense.{placed, by_start, meets, stack_infos, win_line, pdb_lines}

-- a body, after what the entries before it left; its refusal's number or 0, its text, and the start that it leaves to the next
pub record Case : Type 0 where
  pub last : Option Last
  pub body : List ℕ
  pub number : ℕ
  pub text : List ℕ
  pub next : Option ℕ

-- a frame from 1000h to 1040h with 5 bytes of prolog: a prolog range that runs on into a code range, and a program with spaces at both ends
abbrev frame : List ℕ
frame = 4 ∷ 4096 ∷ 64 ∷ 5 ∷ 8 ∷ 4 ∷ 16 ∷ 1 ∷ 32 ∷ 0 ∷ 1 ∷ 1 ∷ 1 ∷ 1 ∷ 15 ∷ 4096 ∷ 4101 ∷ 4101 ∷ 4160 ∷ ascii "  $eip 4 + ^ = "

-- one code range from 0 up to 7FFFFFFFh, in a frame of that start and this code size
abbrev long : ℕ → ℕ → List ℕ
long start size = 1 ∷ start ∷ size ∷ 0 ∷ 0 ∷ 0 ∷ 0 ∷ 0 ∷ 0 ∷ 0 ∷ 0 ∷ 0 ∷ 0 ∷ 1 ∷ 0 ∷ 0 ∷ 2147483647 ∷ []

pub cases : List Case
cases =
    -- one line over both ranges, the program trimmed
    record { last = no_last; body = frame; number = 0; text = ascii "STACK WIN 4 1000 40 5 0 8 4 10 20 1 $eip 4 + ^ =\n"; next = Some 4096 }
    -- the same entry again, and the same after another prolog size
    ∷ record {
      last = Some (record { ty = 4; start = record { 0 = 4096 }; code_size = 64; prolog_size = 5 });
      body = frame;
      number = 0;
      text = [];
      next = Some 4096;
    }
    ∷ record {
      last = Some (record { ty = 4; start = record { 0 = 4096 }; code_size = 64; prolog_size = 6 });
      body = frame;
      number = 0;
      text = ascii "STACK WIN 4 1000 40 5 0 8 4 10 20 1 $eip 4 + ^ =\n";
      next = Some 4096;
    }
    -- two prolog and three code ranges, in no order, one of them empty; a max stack that is not there; no program, the base word 1
    ∷ record {
      last = no_last;
      body =
          0 ∷ 8192 ∷ 256 ∷ 16 ∷ 0 ∷ 0 ∷ 0 ∷ 0 ∷ 7 ∷ 1 ∷ 0 ∷ 1 ∷ 2 ∷ 3 ∷ 0
          ∷ 12296 ∷ 12304 ∷ 8192 ∷ 8200 ∷ 20480 ∷ 20512 ∷ 8200 ∷ 8200 ∷ 16384 ∷ 16388 ∷ [];
      number = 0;
      text =
          ascii "STACK WIN 0 2000 8 8 0 0 0 0 0 0 1\nSTACK WIN 0 3008 8 8 0 0 0 0 0 0 1\n"
          ++ ascii "STACK WIN 0 2008 0 0 0 0 0 0 0 0 1\nSTACK WIN 0 4000 4 0 0 0 0 0 0 0 1\nSTACK WIN 0 5000 20 0 0 0 0 0 0 0 1\n";
      next = Some 8192;
    }
    -- no ranges: no line, but the last entry of the next
    ∷ record { last = no_last; body = 2 ∷ 48 ∷ 4 ∷ 1 ∷ 0 ∷ 0 ∷ 0 ∷ 0 ∷ 0 ∷ 0 ∷ 0 ∷ 0 ∷ 0 ∷ 0 ∷ 0 ∷ []; number = 0; text = []; next = Some 48 }
    -- a program, but no table; one range of each that do not meet
    ∷ record {
      last = no_last;
      body = 3 ∷ 16 ∷ 32 ∷ 6 ∷ 1 ∷ 2 ∷ 3 ∷ 0 ∷ 0 ∷ 1 ∷ 1 ∷ 0 ∷ 1 ∷ 1 ∷ 0 ∷ 16 ∷ 22 ∷ 32 ∷ 48 ∷ [];
      number = 0;
      text = ascii "STACK WIN 3 10 6 6 0 1 2 3 0 0 \nSTACK WIN 3 20 10 0 0 1 2 3 0 0 \n";
      next = Some 16;
    }
    -- code size 7FFFFFFFh is written, 80000000h skipped; from 80000001h on 7FFFFFFFh is out of reach
    ∷ record { last = no_last; body = long 0 2147483647; number = 0; text = ascii "STACK WIN 1 0 7fffffff 0 0 0 0 0 0 0 0\n"; next = Some 0 }
    ∷ record { last = no_last; body = long 9 2147483648; number = 0; text = []; next = None }
    ∷ record { last = no_last; body = long 2147483649 2147483647; number = 6; text = []; next = None }
    -- code start FFFFFFFFh with a prolog of 1 byte is out of reach
    ∷ record { last = no_last; body = 0 ∷ 4294967295 ∷ 0 ∷ 1 ∷ 0 ∷ 0 ∷ 0 ∷ 0 ∷ 0 ∷ 0 ∷ 0 ∷ 0 ∷ 0 ∷ 0 ∷ 0 ∷ []; number = 6; text = []; next = None }
    -- two code ranges with one start; a newline in a program
    ∷ record { last = no_last; body = 1 ∷ 9 ∷ 8 ∷ 0 ∷ 0 ∷ 0 ∷ 0 ∷ 0 ∷ 0 ∷ 0 ∷ 0 ∷ 0 ∷ 0 ∷ 2 ∷ 0 ∷ 9 ∷ 10 ∷ 9 ∷ 11 ∷ []; number = 4; text = []; next = None }
    ∷ record { last = no_last; body = 1 ∷ 9 ∷ 8 ∷ 0 ∷ 0 ∷ 0 ∷ 0 ∷ 0 ∷ 0 ∷ 0 ∷ 1 ∷ 1 ∷ 0 ∷ 0 ∷ 1 ∷ 10 ∷ []; number = 4; text = []; next = None }
    ∷ []

-- the lines of a body that is not skipped, behind such an entry
abbrev unskipped : Option Last → List ℕ → List Line
unskipped last ws = cond (pdb_skipped last ws) [] (pdb_lines ws)

-- the last entry for the next has this start, or there is none
abbrev left_is : Option Last → Option ℕ → Bool
left_is None None = true
left_is None (Some s) = false
left_is (Some last) None = false
left_is (Some last) (Some s) = eqb last.start.0 s

-- the entry as it is run, its lines' text where it is not refused, and what it leaves
abbrev pub passes : Case → Bool
passes k =
    let e = pdb_entry k.last k.body in
    eqb e.number k.number
    && (eqw e.text k.text && (cond (eqb k.number 0) (eqw (render false (unskipped k.last k.body)) k.text) true && left_is e.next k.next))

worked : T (all passes cases)
unfolding cases Pdb·open Lines·open with_program no_front before no_back win_tail most_stack fields_of prolog_fields code_fields both_fields placed by_start
    meets stack_infos win_line pdb_lines
worked = tt
