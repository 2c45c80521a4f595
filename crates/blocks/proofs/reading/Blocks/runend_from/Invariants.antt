use Rattle.std.proofs.Common.{◌≡◌, ◌+◌, ◌*◌, ◌<◌, ◌≤◌}
use Rattle.layout.specs.Load.{tally}
use Rattle.blocks.specs.Views.{runend_in}
use Rattle.blocks.proofs.reading.Blocks.runend_from.Given as goal

-- the runend that is looked for is the `left`-th one at or after slot `64 * block + place`
abbrev pub invariant-loop-block : goal.invariant-loop-block
invariant-loop-block l =
    (64 * l.initial.block + l.initial.place ≤ 64 * l.block + l.place) × (l.place < 64) × (0 < l.left)
    × (tally (runend_in l.self.width.bits l.self.words.now) (64 * l.block + l.place) + l.left
    ≡ tally (runend_in l.self.width.bits l.self.words.now) (64 * l.initial.block + l.initial.place) + l.k)
