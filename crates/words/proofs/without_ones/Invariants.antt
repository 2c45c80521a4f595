use Rattle.std.proofs.Common.{◌≡◌, ℕ, ◌-◌, ◌*◌}
use Rattle.words.specs.Bits.{ones_under}
use Rattle.words.proofs.without_ones.Given as goal

-- `rest` is `w` without four of its lowest ones for each turn
abbrev pub invariant-loop : goal.invariant-loop
invariant-loop l = (n : ℕ) → ones_under l.rest n ≡ ones_under l.w n - 4 * l.counter
