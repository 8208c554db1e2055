-- Names fit into the fixed bytes: those of the tables by a computed test over each, those of 64-bit ARM's rule and of ARM64 unwind codes below 1000 by their digits.
use Rattle.std.proofs.Common.{true, false, cond, ◌≡◌, refl, ℕ, suc, ◌≤◌, ◌<◌, Bool, not, ◌||◌, List, [], ◌∷◌, ◌++◌, T, eqb, leb, length, take, replicate}
use Rattle.std.proofs.Common.{arith, leb→le, le→leb, length-append, length-take}
use Rattle.std.proofs.lemmas.List.{take_all}
use Rattle.std.proofs.lemmas.Bool.{ne_eqb}
use Rattle.text.specs.Text.{ascii, Put}
use Rattle.text.specs.Text.Laws.{put_whole}
use Rattle.text.specs.Tests.{either, any}
use Rattle.digits.specs.Digits.{decimal}
use Rattle.digits.specs.Digits.Laws.{digits_length}
use Rattle.tables.specs.Tables.{i386, x86_64, arm, ppc, mips, pe_x64, listed_name, pe_name}
use Rattle.tables.specs.Tables.Laws.{listed_all, pe_all}
use Rattle.names.specs.Names.{arm64_cfi_name, cfi_name, letter_of, arm64_name}
use Rattle.names.specs.Names.Laws.{arm64_cfi_each}

abbrev short : List ℕ → Bool
short n = leb (length n) 8

whole : (n : List ℕ) → T (short n) → take 8 n ≡ n
whole n h = take_all 8 n (leb→le (length n) 8 h)

listed_short : (f r : ℕ) → T (short (listed_name f r))
unfolding i386 x86_64 arm ppc mips
listed_short f r = listed_all short tt tt tt tt tt tt f r

numbered_short : (l : List ℕ) (n : ℕ) → length l ≤ 6 → n ≤ 31 → T (short (l ++ decimal n))
unfolding decimal
numbered_short l n k h = le→leb _ 8 (omega (arith, length-append l (decimal n), digits_length 10 1 n (omega arith) (omega arith)))

arm64_cfi_short : (r : ℕ) → T (short (arm64_cfi_name r))
arm64_cfi_short r = arm64_cfi_each (λ n. T (short n)) (λ n h. numbered_short (ascii "x") n (omega arith) (omega arith)) tt
    (λ n h. numbered_short (ascii "v") n (omega arith) h) tt r

pub cfi_short : (f r : ℕ) → length (cfi_name f r) ≤ 8
unfolding cfi_name
cfi_short f r = leb→le _ 8 (either short (eqb f 4 || eqb f 9) (arm64_cfi_name r) (listed_name f r) (arm64_cfi_short r) (listed_short f r))

pub pe_whole : (r : ℕ) → take 8 (pe_name r) ≡ pe_name r
unfolding pe_x64
pe_whole r = whole (pe_name r) (pe_all short tt tt r)

letter_one : (l : ℕ) → length (letter_of l) ≡ 1
unfolding letter_of
letter_one l = go (eqb l 0) (eqb l 1)
  where
    go : (s t : Bool) → length (cond s (ascii "x") (cond t (ascii "d") (ascii "q"))) ≡ 1
    go true t = refl
    go false true = refl
    go false false = refl

pub arm64_short : (l r : ℕ) → r < 1000 → length (arm64_name l r) ≤ 8
unfolding arm64_name decimal
arm64_short l r h = omega (arith, length-append (letter_of l) (decimal r), letter_one l, digits_length 10 2 r (omega arith) h)

-- an empty name is none
pub some_any : (n : List ℕ) → not (eqb (length n) 0) ≡ any n
unfolding any
some_any [] = refl
some_any (b ∷ n) = rw (ne_eqb (suc (length n)) 0 (λ e. omega arith))

-- a text that fits, put into eight zeros, is the name's
pub name_whole : {d t : List ℕ} {r : ℕ} → Put (replicate 8 0) 0 t d r → length t ≤ 8 → take r d ≡ t
name_whole p h = (put_whole p (omega arith) (omega (arith, p.next))).1

pub front_short : (t : List ℕ) → length (take 8 t) ≤ 8
front_short t = omega (arith, length-take 8 t)
