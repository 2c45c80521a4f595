use Rattle.std.proofs.Common.{◌≡◌, ◌+◌, ◌-◌, ◌*◌, ◌≤◌}
use Rattle.layout.specs.Load.{tally}
use Rattle.blocks.specs.Views.{runend_in}
use Rattle.blocks.proofs.reading.Blocks.runends_up_to.Given as goal

-- `n` counts the runends of the blocks from `first` up to `b` besides those that it began with
abbrev pub invariant-loop-b : goal.invariant-loop-b
invariant-loop-b l =
    (l.n + tally (runend_in l.self.width.bits l.self.words.now) (64 * l.first) ≡ tally (runend_in l.self.width.bits l.self.words.now) (64 * l.b) + l.initial.n)
    × (l.n ≤ 64 * (l.b - l.first) + l.initial.n)
