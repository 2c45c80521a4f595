use Rattle.std.proofs.Common.{rules}
use Rattle.blocks.specs.Views.{runend_in}
use Rattle.blocks.proofs.reading.Blocks.runend.Goals as goal

pub returns : goal.returns
unfolding runend_in
returns c = search rules
