-- The code's rules and the rules of a line that they stand for.
use Rattle.std.specs.Prelude.{ℕ, List}
use Rattle.text.specs.Text.{ascii}
use Rattle.tables.specs.Tables.{pe_name}
use Rattle.names.specs.Names.{cfi_name, arm64_name, name_text}
use Rattle.lines.specs.Lines as L
use Rattle.rules.specs.declared.Reg.{Reg}
use Rattle.rules.specs.declared.Reg.TheVariants.{Sp, Pe, Cfi, Arm64}
use Rattle.rules.specs.declared.Form.{Form}
use Rattle.rules.specs.declared.Form.TheVariants.{Register, RegisterPlus, AtRegisterPlus, CfaPlus, AtCfaPlus, AtCfaMinus}
use Rattle.rules.specs.declared.Rule.{Rule}
pub mod Laws

-- the name of a register that the code hands on
unfoldable pub reg_name : Reg → List ℕ
reg_name Sp = ascii ".sp"
reg_name (Pe r) = pe_name r
reg_name (Cfi f r) = cfi_name f r
reg_name (Arm64 l r) = arm64_name l r

-- the code's forms are those of the sense
unfoldable pub form_of : Form → L.Form
form_of (Register r) = L.register (reg_name r)
form_of (RegisterPlus r n) = L.register_plus (reg_name r) n
form_of (AtRegisterPlus r n) = L.at_register_plus (reg_name r) n
form_of (CfaPlus n) = L.cfa_plus n
form_of (AtCfaPlus n) = L.at_cfa_plus n
form_of (AtCfaMinus n) = L.at_cfa_minus n

-- and its rules
unfoldable pub rule_of : Rule → L.Rule
rule_of r = L.rule (name_text r.name) (form_of r.form)
