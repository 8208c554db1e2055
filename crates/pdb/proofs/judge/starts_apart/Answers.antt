-- `starts_apart`: each range's start is tested.
use Rattle.std.proofs.Common.{◌≡◌, refl, rules, tests, ap, ◌∙◌, Bool, not, ◌&&◌, ℕ, List, [], ◌∷◌, eqb}
use Rattle.std.proofs.lemmas.Iterator.{YieldsList-from_slice}
use Rattle.std.proofs.lemmas.Iterator.Search.{all_from_yields_List}
use Rattle.std.specs.List.{list_all}
use Rattle.pdb.specs.Pdb.{apart, start_of}
use Rattle.pdb.specs.Index.{ranges_of, range_of}
use Rattle.pdb.proofs.judge.starts_apart.Goals as goal

all_apart : (s : ℕ) (ps : List (List ℕ)) → list_all (λ w. not (eqb (start_of (range_of w)) s)) ps ≡ apart s (ranges_of ps)
unfolding apart
all_apart s [] = refl
all_apart s (p ∷ ps) = ap (λ (t : Bool). not (eqb (start_of (range_of p)) s) && t) (all_apart s ps)

pub returns : goal.returns
returns c =
    all_from_yields_List (λ w. not (eqb (start_of (range_of w)) c.args.start.0)) _ _ _ c.all.ensures.ran (YieldsList-from_slice c.args.ranges.now cc)
    (λ x b q k. search (rules, tests))
    ∙ all_apart c.args.start.0 c.args.ranges.now
