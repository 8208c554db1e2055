-- Every kind judges by its layout, its skipping and its reach, in this order: what follows for an entry that is written, or that is not refused.
use Rattle.std.specs.Prelude.{◌≡◌, refl, Bool, true, false, cond, List, [], ℕ, T, Option, None, Some, Ok, Err}
use Rattle.std.proofs.Common.{arith}
use Rattle.refusal.specs.declared.Refusal.{Refusal}
use Rattle.refusal.specs.declared.Refusal.TheVariants.{Layout}
use Rattle.refusal.specs.Refusal.Laws.{numbered}
use Rattle.entry.specs.declared.Fate.TheVariants.{Skip, Write}
use Rattle.entry.specs.declared.Last.{Last}
use Rattle.entry.specs.Entry.{Judged, comes_to}

-- 4 where the layout is broken, then skipping, then r where it is out of reach
abbrev pub judged_by : Bool → Bool → Bool → Refusal → Judged
judged_by layout skipped reach r = cond layout (cond skipped (Ok Skip) (cond reach (Ok Write) (Err r))) (Err Layout)

-- what is written keeps the layout and is in reach
pub only_written : (layout skipped reach : Bool) (r : Refusal) → judged_by layout skipped reach r ≡ Ok Write → T layout × T reach
only_written true false true r e = (tt, tt)
only_written true false false r e = let z : ◌≡◌ {A = ℕ} 0 1 = cc in absurd (omega arith)
only_written true true s r e = let z : ◌≡◌ {A = ℕ} 0 1 = cc in absurd (omega arith)
only_written false s t r e = let z : ◌≡◌ {A = ℕ} 0 1 = cc in absurd (omega arith)

-- an entry that is not refused keeps the layout, and is written unless it is skipped: its text, and what it leaves to the next
pub record Accepted (layout skipped : Bool) (judged : Judged) (text : List ℕ) (last next : Option Last) : Type 0 where
  pub keeps : T layout
  pub judged_is : judged ≡ cond skipped (Ok Skip) (Ok Write)
  pub text_is : (comes_to judged text last next).text ≡ cond skipped [] text
  pub next_is : (comes_to judged text last next).next ≡ cond skipped last next

pub accepted : (layout skipped reach : Bool) (r : Refusal) (text : List ℕ) (last next : Option Last)
    → (comes_to (judged_by layout skipped reach r) text last next).number ≡ 0 → Accepted layout skipped (judged_by layout skipped reach r) text last next
accepted true true s r text last next e = record { keeps = tt; judged_is = refl; text_is = refl; next_is = refl }
accepted true false true r text last next e = record { keeps = tt; judged_is = refl; text_is = refl; next_is = refl }
accepted true false false r text last next e = absurd (numbered r e)
accepted false s t r text last next e = absurd (omega arith)

-- the same where more than one refusal can follow skipping: written, or refused by one of them
abbrev pub reached : Option Refusal → Judged
reached None = Ok Write
reached (Some r) = Err r

pub accepted_by : (layout skipped : Bool) (o : Option Refusal) (text : List ℕ) (last next : Option Last)
    → (comes_to (cond layout (cond skipped (Ok Skip) (reached o)) (Err Layout)) text last next).number ≡ 0
    → Accepted layout skipped (cond layout (cond skipped (Ok Skip) (reached o)) (Err Layout)) text last next
accepted_by true true o text last next e = record { keeps = tt; judged_is = refl; text_is = refl; next_is = refl }
accepted_by true false None text last next e = record { keeps = tt; judged_is = refl; text_is = refl; next_is = refl }
accepted_by true false (Some r) text last next e = absurd (numbered r e)
accepted_by false s o text last next e = absurd (omega arith)
