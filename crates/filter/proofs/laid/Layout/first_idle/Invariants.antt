use Rattle.std.proofs.Common.{◌≡◌, ℕ, suc, ◌-◌, ◌<◌, ◌≤◌}
use Rattle.layout.specs.Load.{load, start}
use Rattle.filter.specs.Layouts.{many_of, slots_in}
use Rattle.filter.proofs.laid.Layout.first_idle.Given as goal

-- the run of the quotient after `past` starts at x, or would, and at each slot up to x some entry waits
abbrev pub invariant-loop-x : goal.invariant-loop-x
invariant-loop-x l =
    (l.initial.x ≤ l.x) × (l.x ≤ slots_in l.self) × (l.x ≡ start (many_of l.self) (suc l.past))
    × ((y : ℕ) → l.initial.x ≤ y → y < l.x → 0 < load (many_of l.self) y)

abbrev pub decreases-loop-x : goal.decreases-loop-x
decreases-loop-x l = slots_in l.self - l.x
