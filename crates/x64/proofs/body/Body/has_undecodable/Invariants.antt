-- `Body::has_undecodable`: the infos left decide, as long as none is found.
use Rattle.std.proofs.Common.{◌≡◌, ◌-◌, min, drop}
use Rattle.x64.specs.X64.{info_count, undecodable_infos}
use Rattle.x64.specs.Index.{info_at}
use Rattle.x64.proofs.body.Body.has_undecodable.Given as goal

abbrev pub invariant-loop : goal.invariant-loop
invariant-loop l = record {
  place : l.rest ≡ drop (info_at l.self.words.now l.counter) l.self.words.now;
  same : undecodable_infos l.rest (l.end - l.counter) 0 ≡ undecodable_infos l.self.words.now (min l.limit (info_count l.self.words.now)) 4;
}
