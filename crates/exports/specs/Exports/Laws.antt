-- The call's contract with the counts stored, or not.
use Rattle.std.specs.Prelude.{◌≡◌, refl, List, [], ◌∷◌, ◌++◌, ℕ, ◌≤◌, ◌<◌, length, set, drop}
use Rattle.std.proofs.Common.{arith, lt-ltb, le-ltb}
use Rattle.refusal.specs.Refusal.{answer_number}
use Rattle.translate.specs.declared.Returned.{Returned}
use Rattle.translate.specs.Outcome.{Outcome, Called}
use Rattle.exports.specs.Exports.{Exported}

two_set : (c : List ℕ) (n m : ℕ) → 2 ≤ length c → (n ∷ m ∷ []) ++ drop 2 c ≡ set (set c 0 n) 1 m
two_set [] n m h = absurd (omega arith)
two_set (x ∷ []) n m h = absurd (omega arith)
two_set (x ∷ y ∷ c) n m h = refl

module _ {o : Outcome} {w' t' : List ℕ} {r : Returned} (p : Called o w' t' r) (c : List ℕ) where
  pub exported_none : length c < 2 → Exported o c w' t' c (answer_number r.answer)
  exported_none h = record { number_is = p.number_is; work_is = p.work_is; text_is = p.text_is; counts_is = rw (lt-ltb (length c) 2 h) refl }

  pub exported : 2 ≤ length c → Exported o c w' t' (set (set c 0 r.entries) 1 r.length) (answer_number r.answer)
  exported h = record {
    number_is = p.number_is;
    work_is = p.work_is;
    text_is = p.text_is;
    counts_is = rw (le-ltb (length c) 2 h, p.entries_is, p.length_is) refl;
  }

  -- the same of the two as one part
  pub exported_two : 2 ≤ length c → Exported o c w' t' ((r.entries ∷ r.length ∷ []) ++ drop 2 c) (answer_number r.answer)
  exported_two h = record {
    number_is = p.number_is;
    work_is = p.work_is;
    text_is = p.text_is;
    counts_is = rw (le-ltb (length c) 2 h, p.entries_is, p.length_is) (two_set c o.entries o.length h);
  }
