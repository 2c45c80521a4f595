-- What one entry more moves in the slots.
use Rattle.std.specs.Prelude.{◌≡◌, ℕ, suc, ◌+◌, ◌-◌, ◌<◌, ◌≤◌, cond, ◌&&◌, ◌≢◌, ◌⊎◌, List, ◌∷◌, ◌++◌, length, take, drop, ◌==◌, nat_le, nat_lt, slice_index}
use Rattle.layout.specs.Load.{start, OneMore, FirstFree, FirstIdle}
use Rattle.layout.specs.Rule.{one_if, quotient, remainder, Sorted, with_one, without_one, sorted, laid, used_at, remainder_at, runend_at, offset_at, many, occupied_at}
use Rattle.layout.specs.Runs.{InRuns, remainders}

-- v comes to place j of the list of c, and the others stay
pub record PutInRun (R R' : ℕ → List ℕ) (c j v : ℕ) : Type 0 where
  pub within : j ≤ length (R c)
  pub here : R' c ≡ take j (R c) ++ v ∷ drop j (R c)
  pub other : (x : ℕ) → x ≢ c → R' x ≡ R x

-- what stood from p up to the free place u is one place higher, and v is at p
pub record Slid (p u v : ℕ) (f g : ℕ → ℕ) : Type 0 where
  pub below : (s : ℕ) → s < p → g s ≡ f s
  pub here : g p ≡ v
  pub moved : (s : ℕ) → p ≤ s → s < u → g (suc s) ≡ f s
  pub above : (s : ℕ) → u < s → g s ≡ f s
  pub gap : f u ≡ 0

-- the same of the ends of runs: a newcomer at the end of a run of others takes the bit of the one before it
pub record SlidEnds (p u j m : ℕ) (f g : ℕ → ℕ) : Type 0 where
  pub below : (s : ℕ) → suc s < p → g s ≡ f s
  pub kept : (s : ℕ) → suc s ≡ p → (j ≡ 0) ⊎ (j < m) → g s ≡ f s
  pub cleared : (s : ℕ) → suc s ≡ p → 0 < j → j ≡ m → (g s ≡ 0) × (f s ≡ 1)
  pub here : g p ≡ one_if (j == m)
  pub moved : (s : ℕ) → p ≤ s → s < u → g (suc s) ≡ f s
  pub above : (s : ℕ) → u < s → g s ≡ f s
  pub gap : f u ≡ 0

pub record Inserted (m : ℕ → ℕ) (c j u v : ℕ) (used rem end used' rem' end' : ℕ → ℕ) : Type 0 where
  pub room : start m c + j ≤ u
  pub fills : used' u ≡ 1
  pub empty : used u ≡ 0
  pub uses : (s : ℕ) → s ≢ u → used' s ≡ used s
  pub remainders : Slid (start m c + j) u v rem rem'
  pub ends : SlidEnds (start m c + j) u j (m c) end end'

-- one entry more in the run of c, at place j: the slots change from there up to the first free one, and nowhere else
abbrev pub SlotsLaw : Type 0
SlotsLaw = (m n : ℕ → ℕ) (R R' : ℕ → List ℕ) (c j u v : ℕ) (used rem end used' rem' end' : ℕ → ℕ)
    → InRuns m R used rem end → InRuns n R' used' rem' end'
    → OneMore m n c → FirstFree m c u → PutInRun R R' c j v
    → Inserted m c j u v used rem end used' rem' end'

-- ---- of the rule

-- v belongs at place j of a list that rises: what stands before is not greater, and what stands from there on is not smaller
pub record Fit (j v : ℕ) (l : List ℕ) : Type 0 where
  pub within : j ≤ length l
  pub before : (i : ℕ) → i < j → slice_index l i ≤ v
  pub after : (i : ℕ) → j ≤ i → i < length l → v ≤ slice_index l i

-- one fingerprint more: it comes to slot start + j, and what lies from there up to the first free slot u moves up by one
abbrev pub InsertSlotsLaw : Type 0
InsertSlotsLaw = (r p : ℕ) (ps : List ℕ) (j u : ℕ) → Sorted ps → FirstFree (many r ps) (quotient r p) u → Fit j (remainder r p) (remainders r ps (quotient r p))
    → Inserted (many r ps) (quotient r p) j u (remainder r p)
    (used_at (laid r 0 ps)) (remainder_at r (laid r 0 ps)) (runend_at r (laid r 0 ps))
    (used_at (laid r 0 (with_one p ps))) (remainder_at r (laid r 0 (with_one p ps))) (runend_at r (laid r 0 (with_one p ps)))

-- one fingerprint less, the one in place j of its run: the same the other way, and the slot before t is free then
abbrev pub RemoveSlotsLaw : Type 0
RemoveSlotsLaw = (r p : ℕ) (ps : List ℕ) (j t : ℕ) → Sorted ps → j < many r ps (quotient r p) → slice_index (remainders r ps (quotient r p)) j ≡ remainder r p
    → FirstIdle (many r ps) (quotient r p) t
    → Inserted (many r (without_one p ps)) (quotient r p) j (t - 1) (remainder r p)
    (used_at (laid r 0 (without_one p ps))) (remainder_at r (laid r 0 (without_one p ps))) (runend_at r (laid r 0 (without_one p ps)))
    (used_at (laid r 0 ps)) (remainder_at r (laid r 0 ps)) (runend_at r (laid r 0 ps))

-- the offsets
abbrev pub InsertOffsetsLaw : Type 0
InsertOffsetsLaw = (r p : ℕ) (ps : List ℕ) (u : ℕ) → Sorted ps → FirstFree (many r ps) (quotient r p) u → (x : ℕ)
    → offset_at r (laid r 0 (with_one p ps)) x ≡ offset_at r (laid r 0 ps) x + one_if (nat_lt (quotient r p) x && nat_le x u)

-- and with one fingerprint less
abbrev pub RemoveOffsetsLaw : Type 0
RemoveOffsetsLaw = (r p : ℕ) (ps : List ℕ) (j t : ℕ) → Sorted ps → j < many r ps (quotient r p) → slice_index (remainders r ps (quotient r p)) j ≡ remainder r p
    → FirstIdle (many r ps) (quotient r p) t → (x : ℕ)
    → offset_at r (laid r 0 (without_one p ps)) x + one_if (nat_lt (quotient r p) x && nat_lt x t) ≡ offset_at r (laid r 0 ps) x

-- the occupied bits
abbrev pub InsertOccupiedLaw : Type 0
InsertOccupiedLaw = (r p : ℕ) (ps : List ℕ) → Sorted ps → (x : ℕ) → occupied_at r (with_one p ps) x ≡ cond (x == quotient r p) 1 (occupied_at r ps x)

-- an insertion keeps the order, and so does a removal
abbrev pub OrderLaw : Type 0
OrderLaw = (p : ℕ) (ps : List ℕ) → Sorted (sorted ps) × (Sorted ps → Sorted (with_one p ps) × Sorted (without_one p ps))
