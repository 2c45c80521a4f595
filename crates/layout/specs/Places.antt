-- In which slots fingerprints in rising order lie, one after the other.
use Rattle.std.specs.Prelude.{ℕ, suc, max, List, [], ◌∷◌, take, slice_index}
use Rattle.layout.specs.Rule.{quotient}

-- the slot after the last of them, where next is the slot after what lies before them
abbrev pub slot_after : ℕ → ℕ → List ℕ → ℕ
slot_after r next [] = next
slot_after r next (p ∷ ps) = slot_after r (suc (max (quotient r p) next)) ps

-- the slot after the first i
abbrev pub next_of : ℕ → List ℕ → ℕ → ℕ
next_of r ps i = slot_after r 0 (take i ps)

-- the slot of the i-th, counted from 0
abbrev pub slot_of : ℕ → List ℕ → ℕ → ℕ
slot_of r ps i = max (quotient r (slice_index ps i)) (next_of r ps i)
