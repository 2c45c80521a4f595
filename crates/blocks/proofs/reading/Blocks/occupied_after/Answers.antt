use Rattle.std.proofs.Common.{◌≡◌, ℕ, ◌+◌, ◌*◌, ◌/◌, ap, arith}
use Rattle.layout.specs.Load.{tally}
use Rattle.layout.proofs.Ranks.{tally_mono}
use Rattle.blocks.specs.Views.{occupied_bit_in}
use Rattle.blocks.proofs.reading.Blocks.occupied_after.Goals as goal

pub loop-b-init : goal.loop-b-init
loop-b-init c =
    let f : ℕ → ℕ = occupied_bit_in c.args.self.now.width.bits c.args.self.now.words.now in
    let first = c.args.from.0 / 64 in
    let e : (64 * first + 63) + 1 ≡ 64 * (first + 1) = omega arith in (
      omega (arith, c.occupied_in_block_after-n.ensures.count, ap (tally f) e, tally_mono f (c.args.from.0 + 1) (64 * (first + 1)) (omega arith)),
      omega (arith, c.occupied_in_block_after-n.ensures.few),
    )
