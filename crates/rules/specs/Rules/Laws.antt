-- Every name, and so every rule of the code with one, is well formed: of the tables by a computed test over each, of numbered registers by their digits.
use Rattle.std.specs.Prelude.{ℕ, Bool, true, false, cond, ◌||◌, ◌++◌, T, eqb}
use Rattle.text.specs.Text.{ascii}
use Rattle.text.specs.Tests.{both, either}
use Rattle.digits.specs.Digits.{digit, decimal}
use Rattle.digits.specs.Digits.Laws.{decimal_all}
use Rattle.tables.specs.Tables.{i386, x86_64, arm, ppc, mips, pe_x64, listed_name, pe_name}
use Rattle.tables.specs.Tables.Laws.{listed_all, pe_all}
use Rattle.names.specs.Names.{arm64_cfi_name, cfi_name, letter_of, arm64_name, name_text}
use Rattle.names.specs.Names.Laws.{arm64_cfi_each}
use Rattle.lines.specs.Lines.{name_byte, name_ok, register_ok, form_ok, rule_ok}
use Rattle.rules.specs.Rules.{reg_name, form_of, rule_of}
use Rattle.rules.specs.declared.Reg.{Reg}
use Rattle.rules.specs.declared.Reg.TheVariants.{Sp, Pe, Cfi, Arm64}
use Rattle.rules.specs.declared.Form.{Form}
use Rattle.rules.specs.declared.Form.TheVariants.{Register, RegisterPlus, AtRegisterPlus, CfaPlus, AtCfaPlus, AtCfaMinus}
use Rattle.rules.specs.declared.Rule.{Rule}

listed_ok : (f r : ℕ) → T (register_ok (listed_name f r))
unfolding i386 x86_64 arm ppc mips
listed_ok f r = listed_all register_ok tt tt tt tt tt tt f r

arm64_cfi_ok : (r : ℕ) → T (register_ok (arm64_cfi_name r))
unfolding digit
arm64_cfi_ok r = arm64_cfi_each (λ n. T (register_ok n)) (λ n h. both (name_ok (decimal n)) _ (decimal_all name_byte n tt) tt) tt
    (λ n h. both (name_ok (decimal n)) _ (decimal_all name_byte n tt) tt) tt r

pub cfi_ok : (f r : ℕ) → T (register_ok (cfi_name f r))
unfolding cfi_name
cfi_ok f r = either register_ok (eqb f 4 || eqb f 9) (arm64_cfi_name r) (listed_name f r) (arm64_cfi_ok r) (listed_ok f r)

pub pe_ok : (r : ℕ) → T (register_ok (pe_name r))
unfolding pe_x64
pe_ok r = pe_all register_ok tt tt r

pub arm64_ok : (l r : ℕ) → T (register_ok (arm64_name l r))
unfolding arm64_name letter_of digit
arm64_ok l r = go (eqb l 0) (eqb l 1)
  where
    go : (s t : Bool) → T (register_ok (ascii "." ++ cond s (ascii "x") (cond t (ascii "d") (ascii "q")) ++ decimal r))
    go true t = both (name_ok (decimal r)) _ (decimal_all name_byte r tt) tt
    go false true = both (name_ok (decimal r)) _ (decimal_all name_byte r tt) tt
    go false false = both (name_ok (decimal r)) _ (decimal_all name_byte r tt) tt

pub reg_ok : (r : Reg) → T (register_ok (reg_name r))
unfolding reg_name
reg_ok Sp = tt
reg_ok (Pe r) = pe_ok r
reg_ok (Cfi f r) = cfi_ok f r
reg_ok (Arm64 l r) = arm64_ok l r

form_ok_lem : (f : Form) → T (form_ok (form_of f))
unfolding form_of
form_ok_lem (Register r) = reg_ok r
form_ok_lem (RegisterPlus r n) = reg_ok r
form_ok_lem (AtRegisterPlus r n) = reg_ok r
form_ok_lem (CfaPlus n) = tt
form_ok_lem (AtCfaPlus n) = tt
form_ok_lem (AtCfaMinus n) = tt

pub rule_ok_lem : (r : Rule) → T (name_ok (name_text r.name)) → T (rule_ok (rule_of r))
unfolding rule_of
rule_ok_lem r h = both (name_ok (name_text r.name)) _ h (form_ok_lem r.form)
