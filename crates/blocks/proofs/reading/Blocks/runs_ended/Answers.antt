use Rattle.std.proofs.Common.{◌≡◌, ◌+◌, ◌*◌, ◌/◌, ◌%◌, min, ap, ◌∙◌, arith}
use Rattle.words.specs.Bits.{ones_under}
use Rattle.layout.specs.Load.{tally}
use Rattle.blocks.specs.Views.{runend_in}
use Rattle.blocks.proofs.Searching.{ended}
use Rattle.blocks.proofs.reading.Blocks.runs_ended.Goals as goal

pub returns : goal.returns
returns c =
    let r = c.args.self.now.width.bits in
    let ws = c.args.self.now.words.now in
    let b = c.args.c.0 / 64 in
    let i = c.args.c.0 % 64 in
    let o = c.offset.result in
    let at : min i 64 ≡ i = omega arith in
    let all : 64 * b + i ≡ c.args.c.0 = omega arith in
    let cut : c.min-offset.result ≡ min o 64 = omega arith in
    omega (
      arith,
      c.ones_below.ensures ∙ ap (ones_under c.ones_from.result) at ∙ c.ones_from.ensures i,
      ap (ones_under c.word.result) cut,
      ended r ws b o i c.word.result c.word.ensures (omega arith),
      ap (tally (runend_in r ws)) all,
      ap (λ x. tally (runend_in r ws) (64 * b + x)) c.offset.ensures,
    )
