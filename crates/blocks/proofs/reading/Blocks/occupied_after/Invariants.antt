use Rattle.std.proofs.Common.{◌≡◌, ◌+◌, ◌-◌, ◌*◌, ◌≤◌}
use Rattle.layout.specs.Load.{tally}
use Rattle.blocks.specs.Views.{occupied_bit_in}
use Rattle.blocks.proofs.reading.Blocks.occupied_after.Given as goal

-- `n` counts the occupied quotients after `from` in the blocks up to b
abbrev pub invariant-loop-b : goal.invariant-loop-b
invariant-loop-b l =
    (l.n + tally (occupied_bit_in l.self.width.bits l.self.words.now) (l.fn.from.0 + 1) ≡ tally (occupied_bit_in l.self.width.bits l.self.words.now) (64 * l.b))
    × (l.n + 1 ≤ 64 * (l.b - l.first))
