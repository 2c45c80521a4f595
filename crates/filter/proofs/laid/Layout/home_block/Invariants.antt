use Rattle.std.proofs.Common.{◌*◌, ◌<◌}
use Rattle.layout.specs.Load.{start}
use Rattle.filter.specs.Layouts.{many_of}
use Rattle.filter.proofs.laid.Layout.home_block.Given as goal

-- the slot lies before the head of the block after the next to be asked
abbrev pub invariant-loop-a : goal.invariant-loop-a
invariant-loop-a l = l.s.0 < start (many_of l.self) (64 * l.a)
