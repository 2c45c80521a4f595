use Rattle.std.proofs.Common.{◌-◌, ◌≤◌}
use Rattle.blocks.specs.Moves.{MovedDown}
use Rattle.blocks.proofs.moves.shift_down.Given as goal

-- the entries up to slot `start` have been moved
abbrev pub invariant-loop-start : goal.invariant-loop-start
invariant-loop-start l = (l.initial.start ≤ l.start) × (l.start ≤ l.to.0) × MovedDown l.width.bits l.initial.words l.words l.initial.start l.start

abbrev pub decreases-loop-start : goal.decreases-loop-start
decreases-loop-start l = l.to.0 - l.start
