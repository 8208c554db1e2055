-- `bytes_fit`: the fold is the test of all.
use Rattle.std.proofs.Common.{◌≡◌, refl, rules, tests, ◌∙◌, Bool, true, false, ◌&&◌, ℕ, List, [], ◌∷◌}
use Rattle.std.proofs.lemmas.Iterator.{YieldsList-from_slice}
use Rattle.std.proofs.lemmas.Iterator.Consumers.{fold_from_yields_List}
use Rattle.std.specs.List.{fold}
use Rattle.text.specs.Tests.{all}
use Rattle.pdb.specs.Pdb.{printable}
use Rattle.pdb.proofs.judge.bytes_fit.Goals as goal

fold_all : (t : Bool) (xs : List ℕ) → fold (λ fit b. fit && printable b) t xs ≡ (t && all printable xs)
fold_all t [] = one t
  where
    one : (t : Bool) → t ≡ (t && true)
    one true = refl
    one false = refl
fold_all t (x ∷ xs) = fold_all (t && printable x) xs ∙ go t (printable x) (all printable xs)
  where
    go : (a b c : Bool) → ((a && b) && c) ≡ (a && (b && c))
    go true b c = refl
    go false b c = refl

pub returns : goal.returns
returns c =
    fold_from_yields_List _ (λ fit b. fit && printable b) true c.fold.result c.fold.ensures.ran (YieldsList-from_slice c.args.program.now cc)
    (λ a x b q k. search (rules, tests))
    ∙ fold_all true c.args.program.now
