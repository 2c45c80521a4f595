use Rattle.std.proofs.Common.{◌≡◌, ℕ, ◌+◌, ◌-◌, ◌<◌, ◌≤◌}
use Rattle.layout.specs.Load.{load, start}
use Rattle.filter.specs.Layouts.{many_of, slots_in}
use Rattle.filter.proofs.laid.Layout.first_free.Given as goal

-- the run of `past` stops at x, and the slots up to x are used
abbrev pub invariant-loop-x : goal.invariant-loop-x
invariant-loop-x l =
    (l.initial.x ≤ l.x)
    × (l.x ≡ start (many_of l.self) l.past + many_of l.self l.past)
    × ((y : ℕ) → l.initial.x ≤ y → y < l.x → 0 < load (many_of l.self) y + many_of l.self y)

abbrev pub decreases-loop-x : goal.decreases-loop-x
decreases-loop-x l = slots_in l.self - l.x
