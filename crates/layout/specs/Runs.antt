-- The slots seen by runs.
use Rattle.std.specs.Prelude.{◌≡◌, ℕ, suc, ◌+◌, ◌-◌, ◌<◌, ◌≤◌, List, map, length, nat_lt, slice_index}
use Rattle.layout.specs.Rule.{remainder, Sorted, Entry, laid, one_if, reading_at, used_at, remainder_at, runend_at, offset_at, quotient_run, many}
use Rattle.layout.specs.Load.{load, start, EndsRuns}

-- the remainders of quotient c
abbrev pub remainders : ℕ → List ℕ → ℕ → List ℕ
remainders r ps c = map (remainder r) (quotient_run r ps c)

-- The slots from start m x to start m (x + 1) hold the fingerprints of quotient x; if it has none, there is no such slot, or one, x itself, and that is free.
pub record InRuns (m : ℕ → ℕ) (R : ℕ → List ℕ) (used rem end : ℕ → ℕ) : Type 0 where
  pub sizes : (x : ℕ) → length (R x) ≡ m x
  pub uses : (x s : ℕ) → start m x ≤ s → s < start m (suc x) → used s ≡ one_if (nat_lt 0 (m x))
  pub holds : (x s : ℕ) → start m x ≤ s → s < start m (suc x) → rem s ≡ slice_index (R x) (s - start m x)
  pub ends : EndsRuns m end

-- the rule puts each run at its start
abbrev pub LayoutLaw : Type 0
LayoutLaw = (r : ℕ) (ps : List ℕ) → Sorted ps
    → InRuns (many r ps) (remainders r ps) (used_at (laid r 0 ps)) (remainder_at r (laid r 0 ps)) (runend_at r (laid r 0 ps))

-- the offset is the load of the queue
abbrev pub OffsetLaw : Type 0
OffsetLaw = (r : ℕ) (ps : List ℕ) → Sorted ps → (x : ℕ) → offset_at r (laid r 0 ps) x ≡ load (many r ps) x

-- the fingerprint in slot s, and 0 in a free one
abbrev pub fingerprint_at : List Entry → ℕ → ℕ
fingerprint_at es s = reading_at (λ p later. p) 0 es s

-- the j-th fingerprint of quotient c lies in slot c + offset + j
abbrev pub PlaceLaw : Type 0
PlaceLaw = (r : ℕ) (ps : List ℕ) → Sorted ps → (c j : ℕ) → j < many r ps c
    → (used_at (laid r 0 ps) ((c + offset_at r (laid r 0 ps) c) + j) ≡ 1)
    × (fingerprint_at (laid r 0 ps) ((c + offset_at r (laid r 0 ps) c) + j) ≡ slice_index (quotient_run r ps c) j)
