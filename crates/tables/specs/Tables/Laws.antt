-- What holds of every name of the tables: a test over their entries, and how far they reach.
use Rattle.std.specs.Prelude.{◌≡◌, ℕ, zero, suc, ◌≤◌, Bool, true, false, cond, List, [], ◌∷◌, T, length, get_or, eqb}
use Rattle.std.proofs.Common.{arith}
use lib.ListN.{get_or-eq_default}
use Rattle.text.specs.Tests.{all, and_l, and_r}
use Rattle.tables.specs.Tables.{i386, x86_64, arm, ppc, mips, table, listed_name, pe_x64, pe_name}

-- what holds of each table and of none holds of a family's
table_each {ℓ} : (P : List (List ℕ) → Type ℓ) → P i386 → P x86_64 → P arm → P ppc → P mips → P [] → (f : ℕ) → P (table f)
unfolding table
table_each P a b c d e none f =
    by (eqb f 1) i386 _ a (by (eqb f 2) x86_64 _ b (by (eqb f 3) arm _ c (by (eqb f 5) ppc _ d (by (eqb f 6) ppc _ d (by (eqb f 7) mips _ e (by (eqb f 8) mips [] e none))))))
  where
    by : (t : Bool) (xs ys : List (List ℕ)) → P xs → P ys → P (cond t xs ys)
    by true xs ys h k = h
    by false xs ys h k = k

entry_passes : (p : List ℕ → Bool) (ns : List (List ℕ)) (r : ℕ) → T (p []) → T (all p ns) → T (p (get_or ns r []))
entry_passes p [] r none h = none
entry_passes p (n ∷ ns) zero none h = and_l (p n) _ h
entry_passes p (n ∷ ns) (suc r) none h = entry_passes p ns r none (and_r (p n) _ h)

-- what a test says of no name and of each entry, it says of every name
pub listed_all : (p : List ℕ → Bool) → T (p []) → T (all p i386) → T (all p x86_64) → T (all p arm) → T (all p ppc) → T (all p mips)
    → (f r : ℕ) → T (p (listed_name f r))
unfolding listed_name
listed_all p none a b c d e f r = entry_passes p (table f) r none (table_each (λ ns. T (all p ns)) a b c d e tt f)

pub pe_all : (p : List ℕ → Bool) → T (p []) → T (all p pe_x64) → (r : ℕ) → T (p (pe_name r))
unfolding pe_name
pe_all p none a r = entry_passes p pe_x64 r none a

-- PowerPC's table is the longest
table_length : (f : ℕ) → length (table f) ≤ 117
unfolding i386 x86_64 arm ppc mips
table_length f = table_each (λ ns. length ns ≤ 117) (omega arith) (omega arith) (omega arith) (omega arith) (omega arith) (omega arith) f

pub listed_past : (f r : ℕ) → 117 ≤ r → listed_name f r ≡ []
unfolding listed_name
listed_past f r h = get_or-eq_default (table f) [] {n = r} (omega (arith, table_length f))
