-- STACK lines and their text (document 01, Sense; Breakpad symbol file format, STACK CFI and STACK WIN).
use Rattle.std.specs.Prelude.{ℕ, Bool, true, false, not, ◌&&◌, List, [], ◌∷◌, ◌++◌, ℤ, eqb}
use Rattle.text.specs.Text.{ascii}
use Rattle.text.specs.Tests.{all, eqw}
use Rattle.digits.specs.Digits.{hex, signed, Digits·open}
use Rattle.lines.specs.declared.StackInfo.{StackInfo}
pub mod Laws

-- text as a list of bytes
abbrev pub Bytes : Type 0
Bytes = List ℕ

-- the six forms of a rule; a register is meant by its name
pub data Form : Type 0 where
  register : Bytes → Form
  register_plus : Bytes → ℤ → Form
  at_register_plus : Bytes → ℤ → Form
  cfa_plus : ℤ → Form
  at_cfa_plus : ℤ → Form
  at_cfa_minus : ℤ → Form

-- what a name is recovered by
pub data Rule : Type 0 where
  rule : Bytes → Form → Rule

-- A CFI line is INIT, with an address and a size, or later, with an address, and has rules.
-- A WIN line has its nine numbers, the flag that there is a program, and a tail.
pub data Line : Type 0 where
  init : ℕ → ℕ → List Rule → Line
  later : ℕ → List Rule → Line
  win : StackInfo → Bool → Bytes → Line

-- ---- their text

-- the name of the canonical frame address
abbrev pub cfa : Bytes
cfa = ascii ".cfa"

-- a number and the operators behind it
abbrev pub amount : ℤ → Bytes → Bytes
amount n operators = ascii " " ++ signed n ++ operators

-- the six forms, as Breakpad writes them
unfoldable pub form_text : Form → Bytes
form_text (register r) = r
form_text (register_plus r n) = r ++ amount n (ascii " +")
form_text (at_register_plus r n) = r ++ amount n (ascii " + ^")
form_text (cfa_plus n) = cfa ++ amount n (ascii " +")
form_text (at_cfa_plus n) = cfa ++ amount n (ascii " + ^")
form_text (at_cfa_minus n) = cfa ++ amount n (ascii " - ^")

-- a space, the name, a colon, a space, the form
unfoldable pub rule_text : Rule → Bytes
rule_text (rule n f) = ascii " " ++ n ++ ascii ": " ++ form_text f

-- rules one after the other
unfoldable pub rules_text : List Rule → Bytes
rules_text [] = []
rules_text (r ∷ rs) = rule_text r ++ rules_text rs

-- INIT, address and size in hexadecimal
unfoldable pub init_text : ℕ → ℕ → Bytes
init_text address size = ascii "STACK CFI INIT " ++ hex address ++ ascii " " ++ hex size

-- one space; in ARM64 books six
abbrev pub gap : Bool → Bytes
gap false = ascii " "
gap true = ascii "      "

-- a later line has an address alone, and ARM64 six spaces
unfoldable pub later_text : Bool → ℕ → Bytes
later_text six address = ascii "STACK CFI" ++ gap six ++ hex address

-- a number of a WIN line
abbrev pub field : ℕ → Bytes
field n = hex n ++ ascii " "

-- 1 with a program, else 0
abbrev pub flag : Bool → Bytes
flag false = ascii "0 "
flag true = ascii "1 "

-- 01, PDB body: the nine numbers, then the flag
unfoldable pub win_text : StackInfo → Bool → Bytes
win_text i program =
    ascii "STACK WIN " ++ field i.ty ++ field i.start.0 ++ field i.code_size ++ field i.prolog_size ++ field i.epilog_size
    ++ field i.params_size ++ field i.saved_regs_size ++ field i.locals_size ++ field i.max_stack_size ++ flag program

-- a line with its newline
unfoldable pub line_text : Bool → Line → Bytes
line_text six (init a z rs) = init_text a z ++ rules_text rs ++ ascii "\n"
line_text six (later a rs) = later_text six a ++ rules_text rs ++ ascii "\n"
line_text six (win i program tail) = win_text i program ++ tail ++ ascii "\n"

-- the text of lines: `six` says how a later line begins
unfoldable pub render : Bool → List Line → Bytes
render six [] = []
render six (l ∷ ls) = line_text six l ++ render six ls

-- ---- well-formed lines: what their names and tails may not hold

-- a byte of a word: neither space nor newline; of a name: nor colon
abbrev pub solid : ℕ → Bool
solid c = not (eqb c 32) && not (eqb c 10)

-- no colon, and nothing that ends a word or a line
abbrev pub name_byte : ℕ → Bool
name_byte c = not (eqb c 58) && solid c

-- every byte of a name is such
abbrev pub name_ok : Bytes → Bool
name_ok = all name_byte

-- .cfa is no register
abbrev pub register_ok : Bytes → Bool
register_ok r = name_ok r && not (eqw r cfa)

-- the register of a form is one
abbrev pub form_ok : Form → Bool
form_ok (register r) = register_ok r
form_ok (register_plus r n) = register_ok r
form_ok (at_register_plus r n) = register_ok r
form_ok (cfa_plus n) = true
form_ok (at_cfa_plus n) = true
form_ok (at_cfa_minus n) = true

-- name and form
abbrev pub rule_ok : Rule → Bool
rule_ok (rule n f) = name_ok n && form_ok f

-- what the reader can read back
abbrev pub line_ok : Line → Bool
line_ok (init a z rs) = all rule_ok rs
line_ok (later a rs) = all rule_ok rs
line_ok (win i program tail) = all (λ c. not (eqb c 10)) tail

-- what to unfold where lines are to compute
unfoldable pub Lines·open : Type 0
unfolding Digits·open form_text rule_text rules_text init_text later_text win_text line_text render
Lines·open = Unit {0}
