use Rattle.std.proofs.Common.{rules}
use Rattle.blocks.specs.Views.{occupied_bit_in}
use Rattle.blocks.proofs.reading.Blocks.occupied.Goals as goal

pub returns : goal.returns
unfolding occupied_bit_in
returns c = search rules
