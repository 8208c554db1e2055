-- A reader of lines, total and lax: of any bytes it gives lines, and of a text that `render` writes of well-formed lines it gives these.
use Rattle.std.specs.Prelude.{cond, get_or, drop}
use mathlib.Core.List.{List, [], ◌∷◌, ◌++◌, map, head_d}
use Rattle.text.specs.Text.{ascii}
use Rattle.text.specs.Tests.{eqw}
use Rattle.digits.specs.Digits.{read_hex, read_signed}
use Rattle.lines.specs.Lines.{Bytes, Form, register, register_plus, at_register_plus, cfa_plus, at_cfa_plus, at_cfa_minus, Rule, rule, Line, init, later, win, cfa}
use Rattle.lines.specs.Cut.{free, cut, after}
pub mod Laws

-- ---- a rule, by its words: 58 is ':'

-- the six forms, by how many words there are, by .cfa and by the operator
unfoldable pub read_form : List Bytes → Form
read_form [] = register []
read_form (r ∷ []) = register r
read_form (r ∷ n ∷ []) = register r
read_form (r ∷ n ∷ o ∷ []) = cond (eqw r cfa) (cfa_plus (read_signed n)) (register_plus r (read_signed n))
read_form (r ∷ n ∷ o ∷ d ∷ ws) =
    cond (eqw r cfa) (cond (eqw o (ascii "+")) (at_cfa_plus (read_signed n)) (at_cfa_minus (read_signed n))) (at_register_plus r (read_signed n))

-- the words in front of the next name, a word with a colon
unfoldable pub front : List Bytes → List Bytes
front [] = []
front (w ∷ ws) = cond (free 58 w) (w ∷ front ws) []

-- a name, and the form up to the next name
unfoldable pub read_rules : List Bytes → List Rule
read_rules [] = []
read_rules (w ∷ ws) = cond (free 58 w) (read_rules ws) (rule (head_d (cut 58 w) []) (read_form (front ws)) ∷ read_rules ws)

-- ---- a line, by its words: 32 is ' '

-- address, rules
unfoldable pub read_later : List Bytes → Line
read_later ws = later (read_hex (get_or ws 0 [])) (read_rules (drop 1 ws))

-- behind "STACK CFI"; between six spaces stand five empty words
unfoldable pub read_cfi : List Bytes → Line
read_cfi ws =
    cond (eqw (get_or ws 0 []) (ascii "INIT")) (init (read_hex (get_or ws 1 [])) (read_hex (get_or ws 2 [])) (read_rules (drop 3 ws)))
    (read_later (cond (eqw (get_or ws 0 []) []) (drop 5 ws) ws))

-- behind "STACK WIN"
unfoldable pub read_win : List Bytes → Bytes → Line
read_win ws tail =
    win
    (record {
      ty = read_hex (get_or ws 0 []);
      start = record { 0 = read_hex (get_or ws 1 []) };
      code_size = read_hex (get_or ws 2 []);
      prolog_size = read_hex (get_or ws 3 []);
      epilog_size = read_hex (get_or ws 4 []);
      params_size = read_hex (get_or ws 5 []);
      saved_regs_size = read_hex (get_or ws 6 []);
      locals_size = read_hex (get_or ws 7 []);
      max_stack_size = read_hex (get_or ws 8 []);
    })
    (eqw (get_or ws 9 []) (ascii "1"))
    tail

-- a WIN line's tail stands behind its twelfth space, and may hold spaces
unfoldable pub read_words : Bytes → List Bytes → Line
read_words line ws = cond (eqw (get_or ws 1 []) (ascii "WIN")) (read_win (drop 2 ws) (after 32 line 12)) (read_cfi (drop 2 ws))

-- words between single spaces
unfoldable pub read_line : Bytes → Line
read_line line = read_words line (cut 32 (line ++ 32 ∷ []))

-- 10 ends a line
unfoldable pub read : Bytes → List Line
read text = map read_line (cut 10 text)
