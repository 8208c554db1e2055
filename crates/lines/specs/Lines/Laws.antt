-- Texts of rules and lines, one after the other.
use Rattle.std.specs.Prelude.{◌≡◌, refl, ℕ, ◌-◌, Bool, true, false, cond, List, [], ◌∷◌, ◌++◌, pos}
use Rattle.std.proofs.Common.{sym, arith, append_assoc, le-ltb}
use Rattle.std.proofs.Math.IntN.{sub_ℕ}
use Rattle.lines.specs.Lines.{Bytes, Rule, Line, rule_text, rules_text, line_text, render}

pub rules_append : (rs qs : List Rule) → rules_text (rs ++ qs) ≡ rules_text rs ++ rules_text qs
unfolding rules_text
rules_append [] qs = refl
rules_append (r ∷ rs) qs = rw (rules_append rs qs) (sym (append_assoc (rule_text r) (rules_text rs) (rules_text qs)))

pub render_append : (six : Bool) (ls ms : List Line) → render six (ls ++ ms) ≡ render six ls ++ render six ms
unfolding render
render_append six [] ms = refl
render_append six (l ∷ ls) ms = rw (render_append six ls ms) (sym (append_assoc (line_text six l) (render six ls) (render six ms)))

-- the text of lines that are left out, or not, is left out with them
pub render_unless : (six out : Bool) (text : Bytes) (ls : List Line) → text ≡ render six ls → cond out [] text ≡ render six (cond out [] ls)
unfolding render
render_unless six true text ls e = refl
render_unless six false text ls e = e

-- what stands in a row: a beginning, a register, a space, a number, the operators
pub row : (i r s n o : Bytes) → i ++ (r ++ (s ++ n ++ o)) ≡ i ++ r ++ s ++ n ++ o
row i r s n o = simp append_assoc

-- an amount that is no difference
pub sub_none : (a : ℕ) → sub_ℕ a 0 ≡ pos a
sub_none a = let e : a - 0 ≡ a = omega arith in rw (le-ltb a 0 (omega arith), e)
