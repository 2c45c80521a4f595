use Rattle.std.proofs.Common.{arith}
use Rattle.layout.proofs.Ranks.{tally_mono}
use Rattle.blocks.specs.Views.{runend_in}
use Rattle.blocks.proofs.reading.Blocks.runends_between.Goals as goal

pub returns-else-from-to : goal.returns-else-from-to
returns-else-from-to c =
    omega (arith, tally_mono (runend_in c.args.self.now.width.bits c.args.self.now.words.now) c.args.to.0 c.args.from.0 (omega arith))
