use Rattle.std.proofs.Common.{rules}
use Rattle.blocks.specs.Views.{remainder_in}
use Rattle.blocks.proofs.reading.Blocks.remainder.Goals as goal

pub returns : goal.returns
unfolding remainder_in
returns c = search rules
