use Rattle.std.proofs.Common.{arith}
use Rattle.filter.proofs.Sounds.{end_selects}
use Rattle.filter.proofs.laid.Layout.run_end.Goals as goal

pub returns-then-run : goal.returns-then-run
returns-then-run c = end_selects c.args.self.now c.args.c.0 _ (omega arith) (omega (arith, c.run_of-run.ensures.to))
