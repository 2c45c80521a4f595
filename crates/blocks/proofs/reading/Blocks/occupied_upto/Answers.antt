use Rattle.std.proofs.Common.{◌≡◌, ◌+◌, ◌*◌, ◌/◌, ◌%◌, min, ap, ◌∙◌, arith}
use Rattle.words.specs.Bits.{ones_under}
use Rattle.layout.specs.Load.{tally}
use Rattle.blocks.specs.Views.{occupied_bit_in}
use Rattle.words.proofs.Ones.{ones_few}
use Rattle.blocks.proofs.Tallies.{occupied_ones}
use Rattle.blocks.proofs.reading.Blocks.occupied_upto.Goals as goal

pub returns : goal.returns
returns c =
    let r = c.args.self.now.width.bits in
    let ws = c.args.self.now.words.now in
    let b = c.args.c.0 / 64 in
    let i = c.args.c.0 % 64 in
    let at : min (i + 1) 64 ≡ i + 1 = omega arith in
    let all : 64 * b + (i + 1) ≡ c.args.c.0 + 1 = omega arith in
    let is = c.rank.ensures ∙ ap (ones_under c.word.result) at in
    record {
      count = omega (arith, is, ap (λ x. ones_under x (i + 1)) c.word.ensures, occupied_ones r ws b (i + 1) (omega arith), ap (tally (occupied_bit_in r ws)) all);
      few = omega (arith, is, ones_few c.word.result (i + 1));
    }
