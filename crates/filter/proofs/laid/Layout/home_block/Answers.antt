use Rattle.std.proofs.Common.{arith}
use Rattle.filter.proofs.Slotting.{not_first}
use Rattle.filter.specs.Layouts.{many_of}
use Rattle.filter.proofs.laid.Layout.home_block.Goals as goal

pub unreachable-requires : goal.unreachable-requires
unreachable-requires c = omega (arith, not_first (many_of c.args.self.now) c.args.s.0 c.loop-a.a c.loop-a.invariant)
