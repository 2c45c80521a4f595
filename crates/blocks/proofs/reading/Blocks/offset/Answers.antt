use Rattle.std.proofs.Common.{rules}
use Rattle.blocks.specs.Views.{offset_in}
use Rattle.blocks.proofs.reading.Blocks.offset.Goals as goal

pub returns : goal.returns
unfolding offset_in
returns c = search rules
