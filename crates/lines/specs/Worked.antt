-- Worked lines, as one table: document 01's first specimen, lines of the Breakpad symbol file format's own examples, and each form and line once.
-- Each is written, well formed, and read back.

use Rattle.std.specs.Prelude.{Bool, true, false, ◌&&◌, pos, negsuc, T}
use mathlib.Core.List.{List, [], ◌∷◌, head_d}
use Rattle.text.specs.Text.{ascii}
use Rattle.text.specs.Tests.{all, eqw}
use Rattle.lines.specs.Lines.{Bytes, register, register_plus, at_register_plus, cfa_plus, at_cfa_plus, at_cfa_minus, rule, Line, init, later, win, cfa, line_ok, render, Lines·open}
use Rattle.lines.specs.Cut.{cut, after}
use Rattle.lines.specs.Read.{read, read_line, read_words, read_win, read_cfi, read_later, read_rules, front, read_form}

-- lines, with six spaces or one, and their text
pub record Case : Type 0 where
  pub six : Bool
  pub lines : List Line
  pub text : Bytes

pub cases : List Case
cases =
    record {
      six = false;
      lines = init 4096 64 (rule cfa (register_plus (ascii "$rsp") (pos 48)) ∷ rule (ascii "$rbx") (at_cfa_minus (pos 16)) ∷ rule (ascii ".ra") (at_cfa_minus (pos 8)) ∷ []) ∷ [];
      text = ascii "STACK CFI INIT 1000 40 .cfa: $rsp 48 + $rbx: .cfa 16 - ^ .ra: .cfa 8 - ^\n";
    }
    ∷ record {
      six = false;
      lines =
          init 134530224 64 (rule cfa (register_plus (ascii "$esp") (pos 4)) ∷ rule (ascii "$eip") (at_cfa_minus (pos 4)) ∷ [])
          ∷ later 134530225 (rule cfa (register_plus (ascii "$esp") (pos 8)) ∷ rule (ascii "$ebp") (at_cfa_minus (pos 8)) ∷ []) ∷ [];
      text = ascii "STACK CFI INIT 804c4b0 40 .cfa: $esp 4 + $eip: .cfa 4 - ^\nSTACK CFI 804c4b1 .cfa: $esp 8 + $ebp: .cfa 8 - ^\n";
    }
    ∷ record {
      six = true;
      lines =
          init 0 8 (rule cfa (register (ascii ".sp")) ∷ rule (ascii ".ra") (register (ascii ".x30")) ∷ [])
          ∷ later 4 (rule cfa (register_plus (ascii ".sp") (pos 16)) ∷ rule (ascii ".x29") (at_cfa_plus (negsuc 15)) ∷ []) ∷ [];
      text = ascii "STACK CFI INIT 0 8 .cfa: .sp .ra: .x30\nSTACK CFI      4 .cfa: .sp 16 + .x29: .cfa -16 + ^\n";
    }
    ∷ record {
      six = false;
      lines = later 18446744073709551615 (rule (ascii "r4") (at_register_plus (ascii "sp") (negsuc 0)) ∷ rule (ascii "sp") (cfa_plus (pos 0)) ∷ []) ∷ [];
      text = ascii "STACK CFI ffffffffffffffff r4: sp -1 + ^ sp: .cfa 0 +\n";
    }
    ∷ record {
      six = false;
      lines =
          win
          (record {
            ty = 4;
            start = record { 0 = 8560 };
            code_size = 20;
            prolog_size = 1;
            epilog_size = 0;
            params_size = 0;
            saved_regs_size = 0;
            locals_size = 0;
            max_stack_size = 0;
          })
          true (ascii "$eip 4 + ^ = $esp $ebp 8 + = $ebp $ebp ^ =")
          ∷ win
          (record {
            ty = 0;
            start = record { 0 = 1 };
            code_size = 2;
            prolog_size = 3;
            epilog_size = 0;
            params_size = 4;
            saved_regs_size = 10;
            locals_size = 11;
            max_stack_size = 4294967295;
          })
          false (ascii "1")
          ∷ [];
      text = ascii "STACK WIN 4 2170 14 1 0 0 0 0 0 1 $eip 4 + ^ = $esp $ebp 8 + = $ebp $ebp ^ =\nSTACK WIN 0 1 2 3 0 4 a b ffffffff 0 1\n";
    }
    ∷ []

-- written, well formed, and read back
abbrev pub passes : Case → Bool
passes k = eqw (render k.six k.lines) k.text && all line_ok k.lines && eqw (render k.six (read k.text)) k.text

worked : T (all passes cases)
unfolding cases Lines·open cut after read read_line read_words read_win read_cfi read_later read_rules front read_form head_d
worked = tt
