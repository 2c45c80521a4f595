use Rattle.std.proofs.Common.{◌≡◌, min, ap, ◌∙◌, ap₂, arith}
use Rattle.words.specs.Bits.{ones_under}
use Rattle.words.proofs.Ones.{ones_few}
use Rattle.blocks.proofs.Tallies.{runend_ones}
use Rattle.blocks.proofs.reading.Blocks.runends_in.Goals as goal

pub returns : goal.returns
returns c =
    let w = c.word.ensures in
    let at : min c.args.i 64 ≡ c.args.i = omega arith in
    record {
      count = omega (
        arith,
        c.ones_below.ensures ∙ ap₂ ones_under w at,
        runend_ones c.args.self.now.width.bits c.args.self.now.words.now c.args.b c.args.i (omega arith),
      );
      few = omega (arith, c.ones_below.ensures ∙ ap (ones_under c.word.result) at, ones_few c.word.result c.args.i);
    }
