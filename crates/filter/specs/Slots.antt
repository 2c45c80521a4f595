-- What single slots show.
use Rattle.std.specs.Prelude.{◌≡◌, ℕ, ◌+◌, ◌*◌, ◌<◌, ◌≤◌, List, Some, None, Option}
use Rattle.layout.specs.Rule.{quotient, remainder, laid, layout, reading_at, occupied_at, runend_at}
use Rattle.layout.specs.Load.{start, rank, Select}
use Rattle.blocks.specs.declared.Quotient.{Quotient}
use Rattle.blocks.specs.declared.Slot.{Slot}

-- what slot s shows: the quotient and the remainder of its entry, or none where it is free
abbrev pub slot_shown : ℕ → List ℕ → ℕ → Option (Quotient × ℕ)
slot_shown r ps s = reading_at (λ p later. Some (record { 0 = quotient r p }, remainder r p)) None (laid r 0 ps) s

-- slot s lies at or after the head of block a and before that of the next block
pub record HomeBlock (m : ℕ → ℕ) (s a : ℕ) : Type 0 where
  pub from : start m (64 * a) ≤ s
  pub below : s < start m (64 * (a + 1))

-- slot s lies in the run of quotient c
pub record InRun (m : ℕ → ℕ) (c s : ℕ) : Type 0 where
  pub from : start m c ≤ s
  pub below : s < start m c + m c

-- The last slot of the run of c by RANK and SELECT: an occupied quotient's run ends at SELECT of the runends for the RANK of the occupied quotients.
abbrev pub RunEnds : ℕ → List ℕ → ℕ → Option Slot → Type 0
RunEnds r ps c None = occupied_at r ps c ≡ 0
RunEnds r ps c (Some e) = (occupied_at r ps c ≡ 1) × Select (runend_at r (layout r ps)) (rank (occupied_at r ps) c) e.0
