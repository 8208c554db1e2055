-- Request 4 (document 02): no name differs. The rule is compared with the entries of the table one by one, and past its end.
use Rattle.std.specs.Prelude.{◌≡◌, ℕ, ◌≤◌, Bool, [], T, get_or}
use Rattle.std.proofs.Common.{refl, sym, arith, ⊎_elim}
use Rattle.std.proofs.lemmas.Bool.Decides.{eqb_tells}
use Rattle.std.proofs.Math.Decide.{dec_lt}
use lib.ListN.{get_or-eq_default}
use borrow.Author.Tests.{ne_eqb}
use Rattle.text.specs.Tests.{tests, at, eqw, eqw→eq}
use Rattle.digits.specs.Digits.{Digits·open}
use Rattle.tables.specs.Tables.{table, listed_name}
use Rattle.names.specs.Names.{arm64_cfi_name, cfi_name}
use Rattle.names.specs.Names.Laws.{arm64_cfi_past}
use Rattle.names.specs.Arm64.{arm64, table_before}

-- the rule's names are the table's
abbrev alike : ℕ → Bool
alike register = eqw (arm64_cfi_name register) (get_or arm64 register [])

each : T (tests 96 alike)
unfolding Digits·open arm64_cfi_name arm64
each = tt

past : (register : ℕ) → 96 ≤ register → [] ≡ get_or arm64 register []
unfolding arm64
past r h = sym (get_or-eq_default arm64 [] {n = r} (omega arith))

pub as_listed : (register : ℕ) → arm64_cfi_name register ≡ get_or arm64 register []
as_listed r = elim (dec_lt r 96) [
  | yes l ↦ eqw→eq _ _ (at 96 alike each r l)
  | no l ↦ let h : 96 ≤ r = omega arith in rw (arm64_cfi_past r h) (past r h)
]

-- no name differs
pub names_kept : (family register : ℕ) → cfi_name family register ≡ get_or (table_before family) register []
unfolding cfi_name listed_name table table_before
names_kept f r = ⊎_elim (λ h. rw h.1 (as_listed r)) (λ h. ⊎_elim (λ k. rw k.1 (as_listed r)) (λ k. rw (ne_eqb f 4 h.1, ne_eqb f 9 k.1) refl) (eqb_tells f 9)) (eqb_tells f 4)
