use Rattle.std.proofs.Common.{◌≡◌, ◌-◌, ◌%◌, ◌≤◌, ◌⊎◌}
use Rattle.words.specs.Row.{long_number, Copied}
use Rattle.words.proofs.moves.move_bits_up.Given as goal

-- the bits that go to `at` and above have been moved
abbrev pub invariant-loop-at : goal.invariant-loop-at
invariant-loop-at l =
    (l.low ≤ l.at) × (l.at ≤ l.to) × ((l.at % 64 ≡ 0) ⊎ (l.at ≡ l.low)) × Copied (long_number l.fn.words) (long_number l.words) (l.at - l.step) l.at (l.to - l.at)

abbrev pub decreases-loop-at : goal.decreases-loop-at
decreases-loop-at l = l.at
