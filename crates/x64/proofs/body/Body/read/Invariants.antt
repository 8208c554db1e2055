-- `Body::read`: the infos left decide, as long as those before fit.
use Rattle.std.proofs.Common.{◌≡◌, ◌-◌}
use Rattle.x64.specs.X64.{infos_fit, x64_layout}
use Rattle.x64.proofs.body.Body.read.Given as goal

abbrev pub invariant-loop : goal.invariant-loop
invariant-loop l = infos_fit l.rest (l.infos - l.counter) 0 ≡ x64_layout l.words
