-- Chains over the rules of a row and the rows of a body, as the definitions have them.
use mathlib.Core.Path.{◌≡◌, refl, ap}
use Prim.Native.Nat.{ℕ, ◌+◌}
use mathlib.Core.Bool.{Bool, true, false, not, cond, ◌&&◌, ◌||◌}
use mathlib.Core.List.{List, [], ◌∷◌}
use lib.Dec.{eqb, leb, ltb}
use borrow.Author.Tests.{eqb-true}
use Rattle.std.specs.Prelude.{map, Option, Some, None, MatchOption}
use Rattle.std.specs.List.{list_any, last_or}
use Rattle.entry.specs.Entry.{word}
use Rattle.dwarf.specs.declared.body.RowWords.{RowWords}
use Rattle.dwarf.specs.Dwarf.{wide, used_value, rule_at, Row, rule_fits, last_end, any_below}
use Rattle.dwarf.specs.Cache.{fits}
use Rattle.dwarf.specs.Slices.{row_is}

pub rule_fits_is : (ws : List ℕ) (a : ℕ) → rule_fits ws a ≡ fits (rule_at ws a)
unfolding rule_fits rule_at used_value
rule_fits_is ws a = ap (λ (t : Bool). ltb (word ws a) 65536 && t) (go (eqb (word ws (a + 1)) 3) refl)
  where
    go : (t : Bool) → eqb (word ws (a + 1)) 3 ≡ t
        → cond t (ltb (wide ws (a + 2)) 65536) (leb (word ws (a + 1)) 4)
        ≡ cond t (ltb (cond (leb 1 (word ws (a + 1)) && leb (word ws (a + 1)) 3) (wide ws (a + 2)) 0) 65536) (leb (word ws (a + 1)) 4)
    go true e = rw (eqb-true (word ws (a + 1)) 3 e)
    go false e = refl

pub below_is : (first load : ℕ) (ws : List Row) → list_any (λ w. not (eqb w.start first) && ltb w.start load) ws ≡ any_below first load ws
unfolding any_below
below_is first load [] = refl
below_is first load (w ∷ ws) = ap (λ (t : Bool). (not (eqb w.start first) && ltb w.start load) || t) (below_is first load ws)

-- the end of a row, if there is one
abbrev pub end_of : Option RowWords → ℕ
end_of None = 0
end_of (Some x) = (row_is x).end

pub ends_at : (o : Option RowWords) (r : ℕ) → MatchOption o (r ≡ 0) (λ x. r ≡ (row_is x).end) → r ≡ end_of o
ends_at None r h = h
ends_at (Some x) r h = h

pub last_is : (o : Option RowWords) (xs : List RowWords) → last_end (end_of o) (map row_is xs) ≡ end_of (last_or o xs)
unfolding last_end
last_is o [] = refl
last_is o (x ∷ xs) = last_is (Some x) xs
