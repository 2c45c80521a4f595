use Rattle.std.proofs.Common.{◌≡◌, ◌+◌, ◌*◌, ◌/◌, ◌%◌, min, ap, ◌∙◌, arith}
use Rattle.words.specs.Bits.{ones_under}
use Rattle.layout.specs.Load.{tally}
use Rattle.blocks.specs.Views.{runend_in}
use Rattle.blocks.proofs.Searching.{ended}
use Rattle.blocks.proofs.reading.Blocks.open_at.Goals as goal

pub returns : goal.returns
returns c =
    let r = c.args.self.now.width.bits in
    let ws = c.args.self.now.words.now in
    let b = c.args.c.0 / 64 in
    let i = c.args.c.0 % 64 in
    let o = c.offset-offset.result in
    let w = c.args.runends in
    let at : min i 64 ≡ i = omega arith in
    let cut : min o 64 ≡ o = omega arith in
    let all : 64 * b + i ≡ c.args.c.0 = omega arith in (
      omega (arith, c.offset-offset.ensures),
      omega (
        arith,
        c.occupied_below.ensures,
        c.ones_below-ended.ensures ∙ ap (ones_under c.ones_from.result) at ∙ c.ones_from.ensures i,
        ap (ones_under w) cut,
        ended r ws b o i w c.requires (omega arith),
        ap (tally (runend_in r ws)) all,
        ap (λ x. tally (runend_in r ws) (64 * b + x)) c.offset-offset.ensures,
      ),
    )
