use Rattle.blocks.specs.Moves.{lowered}
use Rattle.blocks.proofs.moves.lower_offsets.Given as goal

abbrev pub ghost-change_each : goal.ghost-change_each
ghost-change_each a = lowered
