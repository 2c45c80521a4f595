use Rattle.std.proofs.Common.{◌≡◌, ℕ, ◌+◌, ◌*◌, ◌/◌, ◌%◌, ◌≤◌, ap, arith}
use Rattle.layout.specs.Load.{tally}
use Rattle.layout.proofs.Ranks.{tally_mono}
use Rattle.blocks.specs.Views.{runend_in}
use Rattle.blocks.proofs.reading.Blocks.runends_up_to.Goals as goal

pub loop-b-init : goal.loop-b-init
loop-b-init c = (omega arith, omega arith)

pub overflow_add-n : goal.overflow_add-n
overflow_add-n c = omega arith

pub loop-b-preserved : goal.loop-b-preserved
loop-b-preserved c =
    let t : ℕ → ℕ = tally (runend_in c.args.self.now.width.bits c.args.self.now.words.now) in
    let next : 64 * (c.loop-b.b + 1) ≡ 64 * c.loop-b.b + 64 = omega arith in
    (omega (arith, ap t next), omega arith)

-- after the loop `n` counts the runends from the first slot of the first block up to `to`
counted : (c : goal.After-runends_in) → (c.loop-b.n + tally (runend_in c.args.self.now.width.bits c.args.self.now.words.now) c.args.from.0
    ≡ tally (runend_in c.args.self.now.width.bits c.args.self.now.words.now) c.args.to.0 + c.runends_in.result)
    × (tally (runend_in c.args.self.now.width.bits c.args.self.now.words.now) c.args.from.0 ≤ tally (runend_in c.args.self.now.width.bits c.args.self.now.words.now) c.args.to.0)
counted c =
    let f : ℕ → ℕ = runend_in c.args.self.now.width.bits c.args.self.now.words.now in
    let from = c.args.from.0 in
    let to = c.args.to.0 in
    let order : from / 64 ≤ to / 64 = omega arith in
    let last : 64 * c.loop-b.b ≡ 64 * (to / 64) = omega (arith, c.loop-b.auto.b-end order) in
    let a : 64 * (from / 64) + from % 64 ≡ from = omega arith in
    let b : 64 * (to / 64) + to % 64 ≡ to = omega arith in
    (omega (arith, ap (tally f) last, ap (tally f) a, ap (tally f) b), tally_mono f from to c.requires)

pub overflow_sub-result : goal.overflow_sub-result
overflow_sub-result c = omega (arith, (counted c).0, (counted c).1)

pub returns : goal.returns
returns c = omega (arith, (counted c).0, (counted c).1)
