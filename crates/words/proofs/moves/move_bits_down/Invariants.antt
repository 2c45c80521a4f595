use Rattle.std.proofs.Common.{◌≡◌, ◌+◌, ◌-◌, ◌%◌, ◌≤◌, ◌⊎◌}
use Rattle.words.specs.Row.{long_number, Copied}
use Rattle.words.proofs.moves.move_bits_down.Given as goal

-- the bits that go below `at` have been moved
abbrev pub invariant-loop-at : goal.invariant-loop-at
invariant-loop-at l =
    (l.from ≤ l.at) × (l.at ≤ l.high) × ((l.at % 64 ≡ 0) ⊎ (l.at ≡ l.high)) × Copied (long_number l.fn.words) (long_number l.words) (l.from + l.step) l.from (l.at - l.from)

abbrev pub decreases-loop-at : goal.decreases-loop-at
decreases-loop-at l = l.high - l.at
