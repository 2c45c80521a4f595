-- What holds of the slots that the rule gives: room, rank and select, and reading back.
use Rattle.std.specs.Prelude.{◌≡◌, ℕ, zero, suc, ◌+◌, ◌-◌, ◌*◌, ◌^◌, ◌<◌, ◌≤◌, max, cond, ◌⊎◌, List, [], ◌∷◌, ◌++◌, map, length, ◌==◌, nat_eq, nat_lt, slice_index, count_by}
use Rattle.std.specs.List.{AllByRecursion as Every}
use Rattle.layout.specs.Moves.{Fit}
use Rattle.layout.specs.Load.{load, tally, rank, Select, FirstFree, FirstIdle}
use Rattle.layout.specs.Rule.{one_if, quotient, remainder, Sorted, with_one, without_one, sorted, laid, used_at, remainder_at, runend_at, offset_at, many, many_from, occupied_at, Crowded, Roomy}
use Rattle.layout.specs.Runs.{remainders}

-- ---- room

-- no quotient is crowded just where the rule gives each fingerprint one of the slots
abbrev pub RoomLaw : Type 0
RoomLaw = (slots r : ℕ) (ps : List ℕ) → Sorted ps
    → (Roomy slots r ps → Every (λ e. e.slot < slots) (laid r 0 ps)) × (Every (λ e. e.slot < slots) (laid r 0 ps) → Roomy slots r ps)

-- and just where nothing waits at the end, and no quotient is past it
abbrev pub RoomLoadLaw : Type 0
RoomLoadLaw = (slots r : ℕ) (ps : List ℕ) → Sorted ps
    → (Roomy slots r ps → (load (many r ps) slots ≡ 0) × (many_from r ps slots ≡ 0)) × ((load (many r ps) slots ≡ 0) × (many_from r ps slots ≡ 0) → Roomy slots r ps)

-- one fingerprint more crowds no quotient just where a slot from its quotient on is free
abbrev pub InsertRoomLaw : Type 0
InsertRoomLaw = (slots r p : ℕ) (ps : List ℕ) → Sorted ps → Roomy slots r ps
    → (Roomy slots r (with_one p ps)
    → (u : ℕ) × FirstFree (many r ps) (quotient r p) u × (u < slots))
    × ((u : ℕ) → FirstFree (many r ps) (quotient r p) u → u < slots → Roomy slots r (with_one p ps))

-- one fingerprint less crowds no quotient where none was
abbrev pub RemoveRoomLaw : Type 0
RemoveRoomLaw = (slots r p : ℕ) (ps : List ℕ) → Roomy slots r ps → Roomy slots r (without_one p ps)

-- the order of the fingerprints does not matter to this
abbrev pub AnyOrderLaw : Type 0
AnyOrderLaw = (r : ℕ) (ps : List ℕ) (c : ℕ) → many_from r (sorted ps) c ≡ many_from r ps c

-- quotients past all those that there are are never crowded
abbrev pub BoundLaw : Type 0
BoundLaw = (slots r bound : ℕ) (ps : List ℕ) → Every (λ p. quotient r p < bound) ps → (c : ℕ) → bound ≤ c → Crowded slots r ps c → ⊥

-- ---- which slots are used

-- a slot is used just where entries wait at it or come there
abbrev pub UsedLaw : Type 0
UsedLaw = (r : ℕ) (ps : List ℕ) → Sorted ps → (s : ℕ) → used_at (laid r 0 ps) s ≡ one_if (nat_lt 0 (offset_at r (laid r 0 ps) s + many r ps s))

-- from slot x on, as many slots are used as entries wait at x and come there, at least
abbrev pub UsedJumpLaw : Type 0
UsedJumpLaw = (r : ℕ) (ps : List ℕ) → Sorted ps → (x y : ℕ) → x ≤ y → y < (x + offset_at r (laid r 0 ps) x) + many r ps x → used_at (laid r 0 ps) y ≡ 1

-- ---- rank and select

-- the last slot of the run of c
abbrev pub last_slot : ℕ → List ℕ → ℕ → ℕ
last_slot r ps c = ((c + offset_at r (laid r 0 ps) c) + many r ps c) - 1

-- the run of an occupied quotient ends at SELECT of the runends for its RANK among the occupied ones
abbrev pub SelectSlotsLaw : Type 0
SelectSlotsLaw = (r : ℕ) (ps : List ℕ) → Sorted ps → (c : ℕ) → 0 < many r ps c
    → Select (runend_at r (laid r 0 ps)) (rank (occupied_at r ps) c) (last_slot r ps c)

-- as many runs end before slot x and its offset as there are occupied quotients below x
abbrev pub RankSlotsLaw : Type 0
RankSlotsLaw = (r : ℕ) (ps : List ℕ) → Sorted ps → (x : ℕ)
    → tally (runend_at r (laid r 0 ps)) (x + offset_at r (laid r 0 ps) x) ≡ tally (occupied_at r ps) x

-- the same counted from slot x and its offset on
abbrev pub BlockSlotsLaw : Type 0
BlockSlotsLaw = (r : ℕ) (ps : List ℕ) → Sorted ps → (x c : ℕ) → x ≤ c → 0 < many r ps c
    → (x + offset_at r (laid r 0 ps) x ≤ last_slot r ps c)
    × (rank (runend_at r (laid r 0 ps)) (last_slot r ps c) ≡ tally (runend_at r (laid r 0 ps)) (x + offset_at r (laid r 0 ps) x) + (rank (occupied_at r ps) c - tally (occupied_at r ps) x))

-- SELECT finds one place only
abbrev pub SelectOneLaw : Type 0
SelectOneLaw = (f : ℕ → ℕ) (k e d : ℕ) → Select f k e → Select f k d → e ≡ d

-- ---- reading back

-- the remainders from slot s on up to the first runend, n of them at most
unfoldable pub run_from : (ℕ → ℕ) → (ℕ → ℕ) → ℕ → ℕ → List ℕ
run_from rem end zero s = []
run_from rem end (suc n) s = rem s ∷ cond (end s == 1) [] (run_from rem end n (suc s))

-- The fingerprints of the n quotients from c on, in slots from s on: the run of an occupied quotient starts in its slot, or after the run before it
-- if that is later, and goes on up to the next runend.
unfoldable pub read_from : ℕ → ℕ → (ℕ → ℕ) → (ℕ → ℕ) → (ℕ → ℕ) → ℕ → ℕ → ℕ → List ℕ
read_from slots r occ rem end zero c s = []
read_from slots r occ rem end (suc n) c s =
    cond (occ c == 1)
    (map (λ x. c * 2 ^ r + x) (run_from rem end slots (max c s)) ++ read_from slots r occ rem end n (suc c) (max c s + length (run_from rem end slots (max c s))))
    (read_from slots r occ rem end n (suc c) s)

-- what is read back from the rows of a layout are the fingerprints that were laid out
abbrev pub ReadLaw : Type 0
ReadLaw = (slots r bound : ℕ) (ps : List ℕ) → Sorted ps → Roomy slots r ps → Every (λ p. quotient r p < bound) ps
    → read_from slots r (occupied_at r ps) (remainder_at r (laid r 0 ps)) (runend_at r (laid r 0 ps)) bound 0 0 ≡ ps

-- ---- the fingerprints as a bag

-- how often p is in a list
abbrev pub copies_of : ℕ → List ℕ → ℕ
copies_of p ps = count_by (λ q. nat_eq q p) ps

-- sorting keeps each fingerprint as often as it was; an insertion adds one, and a removal takes one away
abbrev pub CountLaw : Type 0
CountLaw = (p q : ℕ) (ps : List ℕ)
    → (copies_of q (sorted ps) ≡ copies_of q ps)
    × (Sorted ps → copies_of q (with_one p ps) ≡ copies_of q ps + one_if (p == q))
    × (copies_of q (without_one p ps) ≡ copies_of q ps - one_if (p == q))
    × (Sorted ps → sorted ps ≡ ps)

-- a fingerprint is there as often as its remainder is among those of its quotient
abbrev pub FindLaw : Type 0
FindLaw = (r p : ℕ) (ps : List ℕ) → copies_of p ps ≡ copies_of (remainder r p) (remainders r ps (quotient r p))

-- u is the first free slot from c on, as the slots show it
abbrev pub FreeLaw : Type 0
FreeLaw = (r : ℕ) (ps : List ℕ) → Sorted ps → (c u : ℕ) → c ≤ u → used_at (laid r 0 ps) u ≡ 0
    → ((x : ℕ) → c ≤ x → x < u → used_at (laid r 0 ps) x ≡ 1) → FirstFree (many r ps) c u

-- a quotient whose only entry is removed is no longer occupied, and all others stay as they were
abbrev pub RemoveOccupiedLaw : Type 0
RemoveOccupiedLaw = (r p : ℕ) (ps : List ℕ) (j : ℕ) → Sorted ps → j < many r ps (quotient r p) → slice_index (remainders r ps (quotient r p)) j ≡ remainder r p
    → (x : ℕ) → occupied_at r (without_one p ps) x ≡ cond (x == quotient r p) (one_if (nat_lt 1 (many r ps x))) (occupied_at r ps x)

-- ---- bounds

-- with room for all, all is 0 past the slots; the last slot of a run and what waits have room
pub record WithinSlots (slots r : ℕ) (ps : List ℕ) : Type 0 where
  pub size : length ps ≤ slots
  pub used : (s : ℕ) → slots ≤ s → used_at (laid r 0 ps) s ≡ 0
  pub rem : (s : ℕ) → slots ≤ s → remainder_at r (laid r 0 ps) s ≡ 0
  pub end : (s : ℕ) → slots ≤ s → runend_at r (laid r 0 ps) s ≡ 0
  pub occ : (c : ℕ) → slots ≤ c → occupied_at r ps c ≡ 0
  pub past : (x : ℕ) → slots ≤ x → offset_at r (laid r 0 ps) x ≡ 0
  pub offset : (x : ℕ) → x ≤ slots → x + offset_at r (laid r 0 ps) x ≤ slots
  pub last : (c : ℕ) → 0 < many r ps c → last_slot r ps c < slots

-- where no quotient is crowded, nothing lies past the slots
abbrev pub WithinLaw : Type 0
WithinLaw = (slots r : ℕ) (ps : List ℕ) → Sorted ps → Roomy slots r ps → WithinSlots slots r ps

-- no fingerprints: all is 0
abbrev pub EmptyLaw : Type 0
EmptyLaw = (slots r x : ℕ) → Roomy slots r [] × (occupied_at r [] x ≡ 0) × (used_at (laid r 0 []) x ≡ 0) × (remainder_at r (laid r 0 []) x ≡ 0) × (runend_at r (laid r 0 []) x ≡ 0)
    × (offset_at r (laid r 0 []) x ≡ 0)

-- ---- where a newcomer goes

-- the remainders of a quotient rise, and so the place up to which none is greater, and from which on none is smaller, is found by its two sides
abbrev pub FitLaw : Type 0
FitLaw = (r : ℕ) (ps : List ℕ) → Sorted ps → (c : ℕ) → Sorted (remainders r ps c)
    × ((i k : ℕ) → i ≤ k → k < many r ps c → slice_index (remainders r ps c) i ≤ slice_index (remainders r ps c) k)
    × ((j v : ℕ) → j ≤ many r ps c → (0 < j → slice_index (remainders r ps c) (j - 1) ≤ v) → (j < many r ps c → v ≤ slice_index (remainders r ps c) j) → Fit j v (remainders r ps c))

-- ---- any list of fingerprints, by the sorted one

-- one fingerprint more, or one less, of a list in any order is one more, or one less, of the sorted list; what was put in and is taken out again leaves the list as it was
abbrev pub BagLaw : Type 0
BagLaw = (p : ℕ) (ps : List ℕ)
    → (sorted (p ∷ ps) ≡ with_one p (sorted ps)) × (sorted (without_one p ps) ≡ without_one p (sorted ps)) × (without_one p (with_one p ps) ≡ ps)

-- ---- what the bits alone tell of a slot

-- The runend with the rank of x: it lies below x, and slot x is free, or it is the last of a row of used slots from x on.
abbrev pub StopSlotsLaw : Type 0
StopSlotsLaw = (r : ℕ) (ps : List ℕ) → Sorted ps → (x : ℕ)
    → (rank (occupied_at r ps) x ≡ 0 → used_at (laid r 0 ps) x ≡ 0)
    × ((e : ℕ) → Select (runend_at r (laid r 0 ps)) (rank (occupied_at r ps) x) e
    → ((e < x) × (used_at (laid r 0 ps) x ≡ 0))
    ⊎ ((x ≤ e) × (suc e ≡ (x + offset_at r (laid r 0 ps) x) + many r ps x) × ((y : ℕ) → x ≤ y → y ≤ e → used_at (laid r 0 ps) y ≡ 1)))

-- the offset is 0 just where as many runs end below x as there are occupied quotients below x
abbrev pub BalanceSlotsLaw : Type 0
BalanceSlotsLaw = (r : ℕ) (ps : List ℕ) → Sorted ps → (x : ℕ)
    → (offset_at r (laid r 0 ps) x ≡ 0 → tally (runend_at r (laid r 0 ps)) x ≡ tally (occupied_at r ps) x)
    × (0 < offset_at r (laid r 0 ps) x → tally (runend_at r (laid r 0 ps)) x < tally (occupied_at r ps) x)

-- with room for all, what a removal looks for is there: a slot after c, of the slots or the one past them, at which nothing waits
abbrev pub IdleLaw : Type 0
IdleLaw = (slots r : ℕ) (ps : List ℕ) → Sorted ps → Roomy slots r ps → (c : ℕ) → 0 < many r ps c → (t : ℕ) × FirstIdle (many r ps) c t × (t ≤ slots)
