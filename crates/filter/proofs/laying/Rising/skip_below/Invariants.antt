use Rattle.std.proofs.Common.{◌≡◌, ℕ, ◌+◌, ◌<◌, ◌≤◌, get_or}
use Rattle.layout.specs.Rule.{quotient}
use Rattle.layout.specs.Places.{next_of}
use Rattle.filter.proofs.laying.Rising.skip_below.Given as goal

-- the next k have quotients below the bound, and `after` is the slot after them
abbrev pub invariant-loop-k : goal.invariant-loop-k
invariant-loop-k l =
    ((j : ℕ) → l.i ≤ j → j < l.i + l.k → quotient l.self.width.bits (get_or l.self.list.now j 0) < l.bound)
    × (l.after ≡ next_of l.self.width.bits l.self.list.now (l.i + l.k))
