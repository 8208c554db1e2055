-- `Body::info`: each info of a body is there whole.
use Rattle.std.proofs.Common.{arith}
use Rattle.x64.specs.Index.{info_whole}
use Rattle.x64.proofs.Infos.{is_there}
use Rattle.x64.proofs.body.Body.info.Goals as goal

pub unwrap-requires : goal.unwrap-requires
unwrap-requires c =
    is_there c.split.result (λ none.
    let short = rw none at c.split.ensures in
    omega (arith, rw c.from_info.ensures at short, info_whole c.args.self.words.now c.args.k c.args.self.fits (omega arith)))

pub returns : goal.returns
returns c =
    let found = rw c.unwrap.ensures at c.split.ensures in
    rw c.from_info.ensures at found.1
