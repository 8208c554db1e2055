-- The sense of a DWARF entry (document 01, "Sense"): its lines, each rule judged by the last earlier row that names its register.
-- With the text's definitions it shares what the body's words hold (`Row`, `rows`, the load address and the first start, `twos`) and the names; that
-- the two agree is proved in proofs/Sense.antt. A body's words are b.
use Rattle.std.specs.Prelude.{ℕ, ◌-◌, Bool, true, false, not, cond, ◌&&◌, ◌||◌, List, [], ◌∷◌, ◌++◌, ℤ, eqb, leb}
use Rattle.text.specs.Text.{ascii}
use Rattle.names.specs.Names.{cfi_name}
use Rattle.lines.specs.Lines.{Bytes, Form, register, register_plus, cfa_plus, at_cfa_plus, Rule, rule, Line, init, later, cfa}
use Rattle.entry.specs.Entry.{word}
use Rattle.dwarf.specs.declared.RegisterRule.{RegisterRule}
use Rattle.dwarf.specs.declared.CfaRule.{CfaRule}
use Rattle.dwarf.specs.declared.CfaRule.TheVariants.{RegisterPlus, Expression}
use Rattle.dwarf.specs.Dwarf.{twos, same_cfa, Row, rows, load_address, first_start}

-- ---- the last earlier row

-- the later one; where there is none, the earlier
abbrev pub or_else : {A : Type 0} → List A → List A → List A
or_else [] ys = ys
or_else (x ∷ xs) ys = x ∷ xs

-- the rule of a row for register r, or none (by the layout it has at most one)
unfoldable pub rule_for : ℕ → List RegisterRule → List RegisterRule
rule_for r [] = []
rule_for r (x ∷ xs) = or_else (rule_for r xs) (cond (eqb x.register r) (x ∷ []) [])

-- that of the last of these rows that names r, or none
unfoldable pub last_rule : List Row → ℕ → List RegisterRule
last_rule [] r = []
last_rule (w ∷ ws) r = or_else (last_rule ws r) (rule_for r w.rules)

-- every row has a CFA: that of the last of these rows, or none
unfoldable pub last_cfa_rule : List Row → List CfaRule
last_cfa_rule [] = []
last_cfa_rule (w ∷ ws) = or_else (last_cfa_rule ws) (w.cfa ∷ [])

-- 01, Sense: a rule differs where the last earlier row naming its register has another, or none does
unfoldable pub rule_differs : List RegisterRule → RegisterRule → Bool
rule_differs [] x = true
rule_differs (y ∷ ys) x = not (eqb y.kind x.kind && eqb y.value x.value)

-- and so does a CFA
unfoldable pub cfa_changes : List CfaRule → CfaRule → Bool
cfa_changes [] x = true
cfa_changes (y ∷ ys) x = not (same_cfa y x)

-- ---- rules: none where a name lacks. An empty name is none.

-- the form of a register that has a name
unfoldable pub name_form : Bytes → List Form
name_form [] = []
name_form (c ∷ n) = register (c ∷ n) ∷ []

-- same (0), offset (1), value offset (2), register (3), other
unfoldable pub rule_forms : ℕ → RegisterRule → List Form
rule_forms f x =
    cond (eqb x.kind 0) (name_form (cfi_name f x.register)) (cond (eqb x.kind 1) (at_cfa_plus (twos x.value) ∷ [])
    (cond (eqb x.kind 2) (cfa_plus (twos x.value) ∷ []) (cond (eqb x.kind 3) (name_form (cfi_name f x.value)) [])))

-- a rule, where both the name and the form are there
unfoldable pub named : Bytes → List Form → List Rule
named n [] = []
named [] (f ∷ fs) = []
named (c ∷ n) (f ∷ fs) = rule (c ∷ n) f ∷ []

-- .ra for the return register
unfoldable pub rule_rules : ℕ → ℕ → RegisterRule → List Rule
rule_rules f ra x = named (cond (eqb x.register ra) (ascii ".ra") (cfi_name f x.register)) (rule_forms f x)

-- the CFA is register + number
unfoldable pub cfa_plus_rules : Bytes → ℤ → List Rule
cfa_plus_rules [] z = []
cfa_plus_rules (c ∷ n) z = rule cfa (register_plus (c ∷ n) z) ∷ []

-- an expression has no rule
unfoldable pub cfa_rules : ℕ → CfaRule → List Rule
cfa_rules f (RegisterPlus r o) = cfa_plus_rules (cfi_name f r) (twos o)
cfa_rules f Expression = []

-- the default of families 3 to 9
unfoldable pub ra_rules : ℕ → ℕ → List Rule
ra_rules f ra = named (ascii ".ra") (cond (leb 3 f && leb f 9) (name_form (cfi_name f ra)) [])

-- ---- lines

-- the rules of a row that differ from those of earlier rows
unfoldable pub new_rules : ℕ → ℕ → (ℕ → List RegisterRule) → List RegisterRule → List Rule
new_rules f ra earlier [] = []
new_rules f ra earlier (x ∷ xs) = cond (rule_differs (earlier x.register) x) (rule_rules f ra x) [] ++ new_rules f ra earlier xs

-- whether the return register's is among them
unfoldable pub ra_differs : ℕ → (ℕ → List RegisterRule) → List RegisterRule → Bool
ra_differs ra earlier [] = false
ra_differs ra earlier (x ∷ xs) = (eqb x.register ra && rule_differs (earlier x.register) x) || ra_differs ra earlier xs

-- words 0 and 5: the family and the return register
abbrev pub family : List ℕ → ℕ
family b = word b 0

-- the return register
abbrev pub return_register : List ℕ → ℕ
return_register b = word b 5

-- the start of the first row
abbrev pub first : List ℕ → ℕ
first b = first_start (rows b)

-- the end of the last row
unfoldable pub end_of : List Row → ℕ
end_of [] = 0
end_of (w ∷ []) = w.end
end_of (w ∷ v ∷ ws) = end_of (v ∷ ws)

-- the default: at the first start, unless the return register's rule differs there, or `moved`
unfoldable pub default_rules : List ℕ → ℕ → Bool → List Rule
default_rules b start moved = cond (eqb start (first b) && not moved) (ra_rules (family b) (return_register b)) []

-- INIT at the first start, its size the last end less that start; addresses less the load address
unfoldable pub line_of : List ℕ → ℕ → List Rule → Line
line_of b start rs = cond (eqb start (first b)) (init (start - load_address b) (end_of (rows b) - first b) rs) (later (start - load_address b) rs)

-- without rules, but for a default, there is no line
unfoldable pub row_line : List ℕ → ℕ → List Rule → Bool → List Line
row_line b start [] moved = []
row_line b start (r ∷ rs) moved = line_of b start ((r ∷ rs) ++ default_rules b start moved) ∷ []

-- the line of row w behind the rows ds
unfoldable pub dwarf_row : List ℕ → List Row → Row → List Line
dwarf_row b ds w =
    row_line b w.start (cond (cfa_changes (last_cfa_rule ds) w.cfa) (cfa_rules (family b) w.cfa) [] ++ new_rules (family b) (return_register b) (last_rule ds) w.rules)
    (ra_differs (return_register b) (last_rule ds) w.rules)

-- 01, Sense: the lines of rows in order, where the rows ds come before them
unfoldable pub dwarf_rows : List ℕ → List Row → List Row → List Line
dwarf_rows b ds [] = []
dwarf_rows b ds (w ∷ ws) = dwarf_row b ds w ++ dwarf_rows b (ds ++ (w ∷ [])) ws

-- 01, Sense: the lines of an entry
unfoldable pub dwarf_lines : List ℕ → List Line
dwarf_lines b = dwarf_rows b [] (rows b)
