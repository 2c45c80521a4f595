-- A queue in which each slot serves one entry: m x entries come at slot x.
use Rattle.std.specs.Prelude.{◌≡◌, ℕ, zero, suc, ◌+◌, ◌-◌, ◌<◌, ◌≤◌, max, ◌≢◌, ◌⊎◌, ◌==◌, nat_lt}
use Rattle.layout.specs.Rule.{one_if}

-- how many that came below slot x are still waiting there
unfoldable pub load : (ℕ → ℕ) → ℕ → ℕ
load m zero = 0
load m (suc x) = (load m x + m x) - 1

-- where the entries of quotient x start, or would start
abbrev pub start : (ℕ → ℕ) → ℕ → ℕ
start m x = x + load m x

-- 1 where some entry comes
abbrev pub busy : (ℕ → ℕ) → ℕ → ℕ
busy m x = one_if (nat_lt 0 (m x))

-- the ones of a row of bits at places below n
unfoldable pub tally : (ℕ → ℕ) → ℕ → ℕ
tally f zero = 0
tally f (suc n) = tally f n + f n

-- RANK: the ones at places 0 to c
abbrev pub rank : (ℕ → ℕ) → ℕ → ℕ
rank f c = tally f (suc c)

-- SELECT: e is the place of the k-th one, counted from 1
pub record Select (f : ℕ → ℕ) (k e : ℕ) : Type 0 where
  pub one : f e ≡ 1
  pub nth : rank f e ≡ k

-- one more entry at c
pub record OneMore (m n : ℕ → ℕ) (c : ℕ) : Type 0 where
  pub here : n c ≡ suc (m c)
  pub other : (x : ℕ) → x ≢ c → n x ≡ m x

-- u is the first free slot at or after c
pub record FirstFree (m : ℕ → ℕ) (c u : ℕ) : Type 0 where
  pub from : c ≤ u
  pub free : load m u + m u ≡ 0
  pub used : (x : ℕ) → c ≤ x → x < u → 0 < load m x + m x

-- t is the first slot after c at which nothing waits
pub record FirstIdle (m : ℕ → ℕ) (c t : ℕ) : Type 0 where
  pub from : c < t
  pub idle : load m t ≡ 0
  pub waits : (x : ℕ) → c < x → x < t → 0 < load m x

-- the loads with one entry more at c, where u is the first free slot there
pub record Raised (m n : ℕ → ℕ) (c u : ℕ) : Type 0 where
  pub before : (x : ℕ) → x ≤ c → load n x ≡ load m x
  pub within : (x : ℕ) → c < x → x ≤ u → load n x ≡ suc (load m x)
  pub after : (x : ℕ) → u < x → load n x ≡ load m x

-- the loads with one entry less at c
pub record Lowered (m n : ℕ → ℕ) (c t : ℕ) : Type 0 where
  pub before : (x : ℕ) → x ≤ c → load n x ≡ load m x
  pub within : (x : ℕ) → c < x → x < t → suc (load n x) ≡ load m x
  pub after : (x : ℕ) → t ≤ x → load n x ≡ load m x

-- one entry more raises the loads up to the first free slot
abbrev pub InsertLaw : Type 0
InsertLaw = (m n : ℕ → ℕ) (c u : ℕ) → OneMore m n c → FirstFree m c u → Raised m n c u

-- one entry less lowers the loads up to the first slot at which nothing waits
abbrev pub RemoveLaw : Type 0
RemoveLaw = (m n : ℕ → ℕ) (c t : ℕ) → OneMore n m c → FirstIdle m c t → Lowered m n c t

-- from x is how many entries come at x or later
abbrev pub Tails : (ℕ → ℕ) → (ℕ → ℕ) → Type 0
Tails m from = (x : ℕ) → from x ≡ m x + from (suc x)

-- none of the numbers is greater than that of the slots from there on
abbrev pub Uncrowded : ℕ → (ℕ → ℕ) → Type 0
Uncrowded slots from = (c : ℕ) → from c ≤ slots - c

-- a queue of that many slots serves all
abbrev pub ServesAll : ℕ → (ℕ → ℕ) → (ℕ → ℕ) → Type 0
ServesAll slots m from = (load m slots ≡ 0) × (from slots ≡ 0)

-- no place is crowded just where the slots serve all
abbrev pub CrowdingLaw : Type 0
CrowdingLaw = (slots : ℕ) (m from : ℕ → ℕ) → Tails m from → (Uncrowded slots from → ServesAll slots m from) × (ServesAll slots m from → Uncrowded slots from)

-- one entry more at c: it crowds some place just where no slot from c on is free
abbrev pub InsertCrowdingLaw : Type 0
InsertCrowdingLaw = (slots : ℕ) (m n from more : ℕ → ℕ) (c : ℕ) → OneMore m n c → Tails m from → Tails n more → Uncrowded slots from
    → ((u : ℕ) → FirstFree m c u → u < slots → more slots ≡ from slots → Uncrowded slots more)
    × (((x : ℕ) → c ≤ x → x < slots → 0 < load m x + m x) → Uncrowded slots more → ⊥)

-- the ends of the runs: of the slots from start m x to start m (x + 1), the one that holds the last entry of x
abbrev pub EndsRuns : (ℕ → ℕ) → (ℕ → ℕ) → Type 0
EndsRuns m end = (x s : ℕ) → start m x ≤ s → s < start m (suc x) → end s ≡ one_if (suc s == start m x + m x)

-- the ends below the start of x are as many as the busy places below x
abbrev pub RankLaw : Type 0
RankLaw = (m end : ℕ → ℕ) → EndsRuns m end → (x : ℕ) → tally end (start m x) ≡ tally (busy m) x

-- the last slot of the run of c is the place of the end with the rank of c
abbrev pub SelectLaw : Type 0
SelectLaw = (m end : ℕ → ℕ) → EndsRuns m end → (c : ℕ) → 0 < m c → Select end (rank (busy m) c) ((start m c + m c) - 1)

-- and from the start of x on, it is the end with the number of the busy places from x to c
abbrev pub BlockLaw : Type 0
BlockLaw = (m end : ℕ → ℕ) → EndsRuns m end → (x c : ℕ) → x ≤ c → 0 < m c
    → (start m x ≤ (start m c + m c) - 1) × (tally end (start m c + m c) ≡ tally end (start m x) + (rank (busy m) c - tally (busy m) x))

-- jumps
abbrev pub JumpLaw : Type 0
JumpLaw = (m : ℕ → ℕ) (x y : ℕ) → x ≤ y
    → (y < start m x + m x → 0 < load m y + m y) × (y < start m x → 0 < load m y)

-- The busy places below x less the ends below x: nothing waits at x just where they are as many.
abbrev pub BalanceLaw : Type 0
BalanceLaw = (m end : ℕ → ℕ) → EndsRuns m end → (x : ℕ)
    → (load m x ≡ 0 → tally end x ≡ tally (busy m) x) × (0 < load m x → tally end x < tally (busy m) x)

-- where something waits at c, the slot before its start is the end of a run
abbrev pub BeforeLaw : Type 0
BeforeLaw = (m end : ℕ → ℕ) → EndsRuns m end → (c : ℕ) → 0 < load m c → end (start m c - 1) ≡ 1

-- The end with the rank of x, whether something comes at x or not: it lies below x, and slot x is free, or the slots from x up to it are used
-- (by the jumps above), and the next slot to look at is the one after it.
abbrev pub StopLaw : Type 0
StopLaw = (m end : ℕ → ℕ) → EndsRuns m end → (x : ℕ)
    → (rank (busy m) x ≡ 0 → load m x + m x ≡ 0)
    × ((e : ℕ) → Select end (rank (busy m) x) e → ((e < x) × (load m x + m x ≡ 0)) ⊎ ((x ≤ e) × (suc e ≡ start m x + m x)))

-- the same, counted from a place x at or below c
abbrev pub BlockStopLaw : Type 0
BlockStopLaw = (m end : ℕ → ℕ) → EndsRuns m end → (x c : ℕ) → x ≤ c
    → (rank (busy m) c ≡ tally (busy m) x → (start m c + m c ≡ max c (start m x)))
    × ((e : ℕ) → end e ≡ 1 → rank end e ≡ tally end (start m x) + (rank (busy m) c - tally (busy m) x)
    → ((e < c) × (load m c + m c ≡ 0)) ⊎ ((c ≤ e) × (suc e ≡ start m c + m c)))

-- a run starts in its slot, or after what was before it if that is later
abbrev pub StartLaw : Type 0
StartLaw = (m : ℕ → ℕ) (x : ℕ) → start m (suc x) ≡ max (suc x) (start m x + m x)

-- each slot is one of those from the start of some x up to the start of the next
abbrev pub CellsLaw : Type 0
CellsLaw = (m : ℕ → ℕ) (s : ℕ) → (x : ℕ) × (x ≤ s) × (start m x ≤ s) × (s < start m (suc x))
