use Rattle.blocks.specs.Moves.{raised}
use Rattle.blocks.proofs.moves.raise_offsets.Given as goal

abbrev pub ghost-change_each : goal.ghost-change_each
ghost-change_each a = raised
