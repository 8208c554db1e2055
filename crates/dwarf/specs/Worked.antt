-- Worked DWARF bodies, as one table: each with the refusal's number or 0 and the text, worked out by hand from document 01.

use Rattle.std.specs.Prelude.{ℕ, Bool, true, false, cond, ◌&&◌, List, [], ◌∷◌, T, eqb}
use Rattle.text.specs.Text.{ascii}
use Rattle.text.specs.Tests.{all, eqw}
use Rattle.lines.specs.Lines.{Bytes, Line, render, line_ok, Lines·open}
use Rattle.entry.specs.Entry.{no_last}
use Rattle.dwarf.specs.Dwarf.{dwarf_skipped, dwarf_entry, Dwarf·open}
use Rattle.dwarf.specs.Sense.{dwarf_lines, dwarf_rows, dwarf_row, row_line, line_of, default_rules, new_rules, ra_differs, ra_rules, cfa_rules, cfa_plus_rules}
use Rattle.dwarf.specs.Sense.{rule_rules, named, rule_forms, name_form, rule_for, last_rule, last_cfa_rule, rule_differs, cfa_changes, end_of}

-- a body's words, and what its entry gives
pub record Case : Type 0 where
  pub words : List ℕ
  pub number : ℕ
  pub text : Bytes

-- the high word of a small negative number
abbrev ones : ℕ
ones = 4294967295

pub cases : List Case
cases =
    -- x86-64, loaded at 400000h: push %rbp; mov %rsp,%rbp. The return address (16) is written once, $rbp (6) once.
    record {
      words =
          2 ∷ 4198400 ∷ 0 ∷ 4194304 ∷ 0 ∷ 16 ∷ 3
          ∷ 4198400 ∷ 0 ∷ 4198401 ∷ 0 ∷ 0 ∷ 7 ∷ 8 ∷ 0 ∷ 1 ∷ 16 ∷ 1 ∷ 4294967288 ∷ ones
          ∷ 4198401 ∷ 0 ∷ 4198404 ∷ 0 ∷ 0 ∷ 7 ∷ 16 ∷ 0 ∷ 2 ∷ 16 ∷ 1 ∷ 4294967288 ∷ ones ∷ 6 ∷ 1 ∷ 4294967280 ∷ ones
          ∷ 4198404 ∷ 0 ∷ 4198432 ∷ 0 ∷ 0 ∷ 6 ∷ 16 ∷ 0 ∷ 2 ∷ 16 ∷ 1 ∷ 4294967288 ∷ ones ∷ 6 ∷ 1 ∷ 4294967280 ∷ ones ∷ [];
      number = 0;
      text = ascii "STACK CFI INIT 1000 20 .cfa: $rsp 8 + .ra: .cfa -8 + ^\nSTACK CFI 1001 .cfa: $rsp 16 + $rbp: .cfa -16 + ^\nSTACK CFI 1004 .cfa: $rbp 16 +\n";
    }
    -- $rbx (3): an offset, then a rule that cannot be written, whose line is dropped, then the offset again, which is written again
    ∷ record {
      words =
          2 ∷ 16 ∷ 0 ∷ 0 ∷ 0 ∷ 16 ∷ 3
          ∷ 16 ∷ 0 ∷ 20 ∷ 0 ∷ 0 ∷ 7 ∷ 8 ∷ 0 ∷ 1 ∷ 3 ∷ 1 ∷ 4294967280 ∷ ones
          ∷ 20 ∷ 0 ∷ 24 ∷ 0 ∷ 0 ∷ 7 ∷ 8 ∷ 0 ∷ 1 ∷ 3 ∷ 4 ∷ 7 ∷ 9
          ∷ 24 ∷ 0 ∷ 32 ∷ 0 ∷ 0 ∷ 7 ∷ 8 ∷ 0 ∷ 1 ∷ 3 ∷ 1 ∷ 4294967280 ∷ ones ∷ [];
      number = 0;
      text = ascii "STACK CFI INIT 10 10 .cfa: $rsp 8 + $rbx: .cfa -16 + ^\nSTACK CFI 18 $rbx: .cfa -16 + ^\n";
    }
    -- ARM64: the first row has an expression, whose register is not read, and only a default, so its line is dropped
    ∷ record {
      words =
          4 ∷ 0 ∷ 0 ∷ 0 ∷ 0 ∷ 30 ∷ 2 ∷ 0 ∷ 0 ∷ 4 ∷ 0 ∷ 1 ∷ 70000 ∷ 5 ∷ 6 ∷ 0
          ∷ 4 ∷ 0 ∷ 8 ∷ 0 ∷ 0 ∷ 31 ∷ 16 ∷ 0 ∷ 0 ∷ [];
      number = 0;
      text = ascii "STACK CFI 4 .cfa: sp 16 +\n";
    }
    -- ARM64, loaded at 1000h: stp x29, x30, [sp, #-16]!. The first row has no rule for x30, so it has the default.
    ∷ record {
      words =
          4 ∷ 8192 ∷ 0 ∷ 4096 ∷ 0 ∷ 30 ∷ 2 ∷ 8192 ∷ 0 ∷ 8196 ∷ 0 ∷ 0 ∷ 31 ∷ 0 ∷ 0 ∷ 0
          ∷ 8196 ∷ 0 ∷ 8256 ∷ 0 ∷ 0 ∷ 31 ∷ 16 ∷ 0 ∷ 2 ∷ 29 ∷ 1 ∷ 4294967280 ∷ ones ∷ 30 ∷ 1 ∷ 4294967288 ∷ ones ∷ [];
      number = 0;
      text = ascii "STACK CFI INIT 1000 40 .cfa: sp 0 + .ra: x30\nSTACK CFI 1004 .cfa: sp 16 + x29: .cfa -16 + ^ .ra: .cfa -8 + ^\n";
    }
    -- ARM: the return register's rule cannot be written but differs, so there is no default; same, value offset, register; 40 has no name
    ∷ record {
      words =
          3 ∷ 0 ∷ 0 ∷ 0 ∷ 0 ∷ 14 ∷ 1 ∷ 0 ∷ 0 ∷ 8 ∷ 0 ∷ 0 ∷ 13 ∷ 4 ∷ 0 ∷ 5
          ∷ 14 ∷ 4 ∷ 0 ∷ 0 ∷ 4 ∷ 0 ∷ 1 ∷ 1 ∷ 5 ∷ 2 ∷ 4294967292 ∷ ones ∷ 6 ∷ 3 ∷ 7 ∷ 0 ∷ 40 ∷ 1 ∷ 8 ∷ 0 ∷ [];
      number = 0;
      text = ascii "STACK CFI INIT 0 8 .cfa: sp 4 + r4: r4 r5: .cfa -4 + r6: r7\n";
    }
    -- skipped: the initial address is all ones; the first start is below load
    ∷ record { words = 2 ∷ ones ∷ ones ∷ 0 ∷ 0 ∷ 16 ∷ 1 ∷ 0 ∷ 0 ∷ 4 ∷ 0 ∷ 0 ∷ 7 ∷ 8 ∷ 0 ∷ 0 ∷ []; number = 0; text = [] }
    ∷ record { words = 2 ∷ 0 ∷ 0 ∷ 1 ∷ 0 ∷ 16 ∷ 1 ∷ 0 ∷ 0 ∷ 4 ∷ 0 ∷ 0 ∷ 7 ∷ 8 ∷ 0 ∷ 0 ∷ []; number = 0; text = [] }
    -- refused by 4: a register twice in a row, a word too many; by 6: the last end below the first start, a later row below load
    ∷ record { words = 2 ∷ 0 ∷ 0 ∷ 0 ∷ 0 ∷ 16 ∷ 1 ∷ 0 ∷ 0 ∷ 4 ∷ 0 ∷ 0 ∷ 7 ∷ 8 ∷ 0 ∷ 2 ∷ 3 ∷ 0 ∷ 0 ∷ 0 ∷ 3 ∷ 4 ∷ 0 ∷ 0 ∷ []; number = 4; text = [] }
    ∷ record { words = 2 ∷ 0 ∷ 0 ∷ 0 ∷ 0 ∷ 16 ∷ 1 ∷ 0 ∷ 0 ∷ 4 ∷ 0 ∷ 0 ∷ 7 ∷ 8 ∷ 0 ∷ 0 ∷ 0 ∷ []; number = 4; text = [] }
    ∷ record { words = 2 ∷ 0 ∷ 0 ∷ 0 ∷ 0 ∷ 16 ∷ 1 ∷ 5 ∷ 0 ∷ 4 ∷ 0 ∷ 0 ∷ 7 ∷ 8 ∷ 0 ∷ 0 ∷ []; number = 6; text = [] }
    ∷ record {
      words = 2 ∷ 0 ∷ 0 ∷ 8 ∷ 0 ∷ 16 ∷ 2 ∷ 8 ∷ 0 ∷ 9 ∷ 0 ∷ 0 ∷ 7 ∷ 8 ∷ 0 ∷ 0 ∷ 7 ∷ 0 ∷ 9 ∷ 0 ∷ 1 ∷ 0 ∷ 0 ∷ 0 ∷ 0 ∷ [];
      number = 6;
      text = [];
    }
    ∷ record { words = 2 ∷ 0 ∷ 0 ∷ 0 ∷ 0 ∷ 16 ∷ 4294967295 ∷ 0 ∷ 0 ∷ 4 ∷ 0 ∷ 0 ∷ 7 ∷ 8 ∷ 0 ∷ 0 ∷ []; number = 4; text = [] }
    ∷ record { words = 2 ∷ 0 ∷ 0 ∷ 0 ∷ 0 ∷ 16 ∷ 1 ∷ 0 ∷ 0 ∷ 4 ∷ 0 ∷ 0 ∷ 7 ∷ 8 ∷ 0 ∷ 4294967295 ∷ []; number = 4; text = [] }
    ∷ []

-- the lines of a body that is not skipped
abbrev unskipped : List ℕ → List Line
unskipped ws = cond (dwarf_skipped ws) [] (dwarf_lines ws)

-- the entry as it is run, and its lines' text where it is not refused
abbrev pub passes : Case → Bool
passes k =
    (eqb (dwarf_entry no_last k.words).number k.number && eqw (dwarf_entry no_last k.words).text k.text)
    && cond (eqb k.number 0) (eqw (render false (unskipped k.words)) k.text && all line_ok (unskipped k.words)) true

pub worked : T (all passes cases)
unfolding cases Dwarf·open Lines·open dwarf_lines dwarf_rows dwarf_row row_line line_of default_rules new_rules ra_differs ra_rules cfa_rules cfa_plus_rules
    rule_rules named rule_forms name_form rule_for last_rule last_cfa_rule rule_differs cfa_changes end_of
worked = tt
