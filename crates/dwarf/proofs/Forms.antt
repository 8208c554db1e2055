-- The code's forms and rules that may not be there, against the bytes of the definitions.
use mathlib.Core.Path.{◌≡◌, refl, sym, ap, ◌∙◌}
use Prim.Native.Nat.{ℕ, ◌≤◌}
use native.Mathlib.Omega.{arith}
use mathlib.Core.Bool.{Bool, true, false, cond, ◌&&◌}
use mathlib.Core.List.{List, [], ◌∷◌, ◌++◌}
use lib.ListN.{length}
use Rattle.text.specs.Text.{ascii, MAX, Put}
use Rattle.text.specs.Tests.{any}
use Rattle.text.specs.Text.Laws.{put_as, put_none}
use Rattle.names.specs.Names.{cfi_name}
use Rattle.names.specs.Names.Laws.{cfi_past}
use Rattle.lines.specs.Lines.{Bytes, rule_text}
use Rattle.rules.specs.Rules.{rule_of}
use Rattle.rules.specs.declared.Rule.{Rule}
use Rattle.dwarf.specs.Dwarf.{named_bytes}
use Rattle.dwarf.specs.Cache.{formatted}
use Rattle.std.specs.Prelude.{Option, Some, None, is_some}

-- ---- no name reaches register 65,536

pub name_far : (f v : ℕ) → 65536 ≤ v → cfi_name f v ≡ []
name_far f v h = cfi_past f v (omega arith)

-- ---- forms and rules that may not be there

-- nothing is an empty name
pub none_any : (n : Bytes) → any n ≡ false → [] ≡ n
unfolding any
none_any [] e = refl
none_any (c ∷ n) e = cc

-- a rule is there where its name and its form are
pub named_some : (n x t : Bytes) → any n ≡ true → any t ≡ true → x ≡ t → ascii " " ++ n ++ ascii ": " ++ x ≡ named_bytes n t
unfolding named_bytes
named_some n x t e f k = rw (e, f, k)

pub no_name : (n t : Bytes) → any n ≡ false → [] ≡ named_bytes n t
unfolding named_bytes
no_name n t e = rw e

pub no_form : (n t : Bytes) → any t ≡ false → [] ≡ named_bytes n t
unfolding named_bytes
no_form n t e = go (any n)
  where
    go : (b : Bool) → [] ≡ cond (b && any t) (ascii " " ++ n ++ ascii ": " ++ t) []
    go true = rw e
    go false = refl

-- without a name there is nothing that could be new
pub unnamed : (t : Bool) (n x : Bytes) → any n ≡ false → false ≡ (t && any (named_bytes n x))
unfolding named_bytes any
unnamed true n x e = rw e
unnamed false n x e = refl

-- whether there is a rule is whether it has bytes
pub some_any : (f : Option Rule) (t : Bytes) → formatted f ≡ t → is_some f ≡ any t
unfolding formatted any rule_text rule_of
some_any None t e = ap any e
some_any (Some r) t e = ap any e

-- ---- puts, where a test holds, and where it does not

pub put_taken : {d d' : List ℕ} {at r : ℕ} (t : Bool) (x y : Bytes) → t ≡ true → x ≡ y → Put d at x d' r → Put d at (cond t y []) d' r
put_taken t x y e f p = put_as p (f ∙ sym (ap (λ (t : Bool). cond t y []) e))

pub put_left : {d : List ℕ} {at : ℕ} (t : Bool) (y : Bytes) → t ≡ false → length d ≤ MAX → at ≤ MAX → Put d at (cond t y []) d at
put_left t y e h k = put_as (put_none h k) (sym (ap (λ (t : Bool). cond t y []) e))
