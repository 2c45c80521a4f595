-- The parts of a block.
use Rattle.std.specs.Prelude.{ℕ}
use Rattle.blocks.specs.declared.places.Part.{Part}
use Rattle.blocks.specs.declared.places.Part.TheVariants.{Occupied, Runends, Offset, Remainders}

-- which word of a block each begins with
abbrev pub place_in_block : Part → ℕ
place_in_block Occupied = 0
place_in_block Runends = 1
place_in_block Offset = 2
place_in_block Remainders = 3
