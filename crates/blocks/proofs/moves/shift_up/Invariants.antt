use Rattle.std.proofs.Common.{◌≤◌}
use Rattle.blocks.specs.Moves.{MovedUp}
use Rattle.blocks.proofs.moves.shift_up.Given as goal

-- the entries from slot `end` on have been moved
abbrev pub invariant-loop-end : goal.invariant-loop-end
invariant-loop-end l = (l.from.0 ≤ l.end) × (l.end ≤ l.initial.end) × MovedUp l.width.bits l.initial.words l.words l.end l.initial.end

abbrev pub decreases-loop-end : goal.decreases-loop-end
decreases-loop-end l = l.end
