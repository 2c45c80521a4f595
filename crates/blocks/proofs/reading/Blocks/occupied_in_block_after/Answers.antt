use Rattle.std.proofs.Common.{◌≡◌, ℕ, ◌+◌, ◌-◌, ◌*◌, ◌/◌, ◌≤◌, ap, arith}
use Rattle.layout.specs.Load.{tally}
use Rattle.layout.proofs.Ranks.{tally_mono}
use Rattle.blocks.specs.Views.{occupied_bit_in}
use Rattle.blocks.proofs.Tallies.{occupied_few}
use Rattle.blocks.proofs.reading.Blocks.occupied_in_block_after.Goals as goal

pub returns-then-to-from-clause-count : goal.returns-then-to-from-clause-count
returns-then-to-from-clause-count c =
    omega (arith, tally_mono (occupied_bit_in c.args.self.now.width.bits c.args.self.now.words.now) (c.args.to.0 + 1) (c.args.from.0 + 1) (omega arith))

-- both are counted from the head of one block
same : (c : goal.After-occupied_upto-2) → (c.occupied_upto.result + tally (occupied_bit_in c.args.self.now.width.bits c.args.self.now.words.now) (c.args.from.0 + 1)
    ≡ tally (occupied_bit_in c.args.self.now.width.bits c.args.self.now.words.now) (c.args.to.0 + 1) + c.occupied_upto-2.result)
    × (tally (occupied_bit_in c.args.self.now.width.bits c.args.self.now.words.now) (c.args.from.0 + 1) ≤ tally (occupied_bit_in c.args.self.now.width.bits c.args.self.now.words.now) (c.args.to.0 + 1))
same c =
    let f : ℕ → ℕ = occupied_bit_in c.args.self.now.width.bits c.args.self.now.words.now in
    let e : 64 * (c.args.to.0 / 64) ≡ 64 * (c.args.from.0 / 64) = omega (arith, c.requires) in
    (omega (arith, c.occupied_upto.ensures.count, c.occupied_upto-2.ensures.count, ap (tally f) e), tally_mono f (c.args.from.0 + 1) (c.args.to.0 + 1) (omega arith))

pub overflow_sub-result : goal.overflow_sub-result
overflow_sub-result c = omega (arith, (same c).0, (same c).1)

pub returns-clause-count : goal.returns-clause-count
returns-clause-count c = omega (arith, (same c).0, (same c).1)

pub returns-clause-few : goal.returns-clause-few
returns-clause-few c =
    let r = c.args.self.now.width.bits in
    let ws = c.args.self.now.words.now in
    let a : (c.args.from.0 + 1) + (c.args.to.0 - c.args.from.0) ≡ c.args.to.0 + 1 = omega arith in
    omega (arith, (same c).0, c.requires, occupied_few r ws (c.args.from.0 + 1) (c.args.to.0 - c.args.from.0), ap (tally (occupied_bit_in r ws)) a)
