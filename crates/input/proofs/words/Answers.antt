-- `words`: no word is there at first; each turn fills one more in.
use Rattle.std.proofs.Common.{arith, refl, sym, length, length-take}
use Rattle.input.specs.Words.{words_of}
use Rattle.input.specs.Words.Laws.{fours_more}
use Rattle.input.proofs.words.Goals as goal

pub returns-in_default-clause-out_after : goal.returns-in_default-clause-out_after
unfolding words_of
returns-in_default-clause-out_after c = refl

pub returns-in_default-clause-read : goal.returns-in_default-clause-read
unfolding words_of
returns-in_default-clause-read c = record { bytes = c.args.bytes.now; count_is = sym (c.in_default.ensures (length c.args.out.now)); words_are = refl }

pub loop-i-init : goal.loop-i-init
unfolding words_of
loop-i-init c = record { inside = omega arith; filled = refl }

pub loop-i-preserved : goal.loop-i-preserved
loop-i-preserved c =
    let l = c.loop-i in
    let ws = c.in-Some.words.now in
    let n = c.min-n.result in
    record {
      inside = omega (arith, length-take n ws);
      filled = rw (l.invariant.filled, c.from_le_bytes.ensures)
          (fours_more c.args.bytes.now c.args.out.now ws l.i n _ c.in-Some.ensures (omega (arith, length-take n ws)) (omega arith) (omega (arith, length-take n ws)));
    }
