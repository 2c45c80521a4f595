use Rattle.std.proofs.Common.{◌≡◌, ◌+◌, ◌*◌, ◌/◌, ◌%◌, min, get_or, ap, ◌∙◌, arith}
use Rattle.words.specs.Bits.{ones_under}
use Rattle.layout.specs.Load.{tally}
use Rattle.blocks.specs.Views.{word_index, occupied_bit_in}
use Rattle.blocks.proofs.Tallies.{occupied_ones}
use Rattle.blocks.proofs.reading.Blocks.occupied_below.Goals as goal

pub returns : goal.returns
returns c =
    let r = c.args.self.now.width.bits in
    let ws = c.args.self.now.words.now in
    let b = c.args.c.0 / 64 in
    let i = c.args.c.0 % 64 in
    let at : min i 64 ≡ i = omega arith in
    let all : 64 * b + i ≡ c.args.c.0 = omega arith in
    omega (
      arith,
      c.ones_below.ensures ∙ ap (λ x. ones_under x (min i 64)) c.word.ensures,
      ap (ones_under (get_or ws (word_index r b 0) 0)) at,
      occupied_ones r ws b i (omega arith),
      ap (tally (occupied_bit_in r ws)) all,
    )
