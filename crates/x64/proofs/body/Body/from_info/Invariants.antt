-- `Body::from_info`: the words from the info on that the loop has come to.
use Rattle.std.proofs.Common.{◌≡◌, drop}
use Rattle.x64.specs.Index.{info_at}
use Rattle.x64.proofs.body.Body.from_info.Given as goal

abbrev pub invariant-loop : goal.invariant-loop
invariant-loop l = l.rest ≡ drop (info_at l.self.words.now l.counter) l.self.words.now
