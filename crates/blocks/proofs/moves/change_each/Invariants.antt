use Rattle.std.proofs.Common.{◌≡◌, ◌≤◌, ◌⊎◌}
use Rattle.blocks.specs.Moves.{ChangedOffsets}
use Rattle.blocks.proofs.moves.change_each.Given as goal

-- the offsets of the blocks below `b` have been changed
abbrev pub invariant-loop-b : goal.invariant-loop-b
invariant-loop-b g l = ChangedOffsets g.by l.width.bits l.initial.words l.words l.initial.b l.b × ((l.b ≤ l.to) ⊎ (l.b ≡ l.initial.b))
