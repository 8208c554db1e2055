-- `step`: what is right above the last pair is small.
use Rattle.std.proofs.Common.{arith}
use Rattle.arm64.specs.Arm64.{above}
use Rattle.arm64.specs.Encoder.{width_small}
use Rattle.arm64.proofs.BreakpadEncoder.step.Goals as goal

pub save_pair-requires-in-SaveNext : goal.save_pair-requires-in-SaveNext
unfolding above
save_pair-requires-in-SaveNext c =
    rw c.above.ensures (omega (arith, c.requires.1.register), omega (arith, c.requires.1.up, width_small c.args.self.last.letter))
