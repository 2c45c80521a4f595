-- What a search for the k-th one of a row of bits finds, counted from 1.
use Rattle.std.specs.Prelude.{◌≡◌, ℕ, suc, ◌+◌, ◌-◌, ◌*◌, ◌/◌, ◌^◌, ◌<◌, ◌≤◌, ◌⊎◌, List, Some, None, Option}
use Rattle.layout.specs.Load.{tally}
use Rattle.blocks.specs.declared.Quotient.{Quotient}
use Rattle.blocks.specs.declared.Slot.{Slot}
use Rattle.blocks.specs.declared.search.NextRun.{NextRun}
use Rattle.blocks.specs.Views.{occupied_bit_in, runend_in, head_in}

-- c is the k-th occupied quotient of block b
pub record FoundOccupied (r : ℕ) (ws : List ℕ) (b k c : ℕ) : Type 0 where
  pub from : 64 * b ≤ c
  pub below : c < 64 * b + 64
  pub one : occupied_bit_in r ws c ≡ 1
  pub nth : tally (occupied_bit_in r ws) (c + 1) ≡ tally (occupied_bit_in r ws) (64 * b) + k

-- block b has no k-th occupied quotient: k counts from 1, or there are fewer
abbrev pub NoOccupied : ℕ → List ℕ → ℕ → ℕ → Type 0
NoOccupied r ws b k = (k ≡ 0) ⊎ (tally (occupied_bit_in r ws) (64 * b + 64) < tally (occupied_bit_in r ws) (64 * b) + k)

-- the k-th occupied quotient of block b: none where the block has none, or where no u32 names its quotients
abbrev pub NthOccupied : ℕ → List ℕ → ℕ → ℕ → Option Quotient → Type 0
NthOccupied r ws b k (Some c) = FoundOccupied r ws b k c.0
NthOccupied r ws b k None = NoOccupied r ws b k ⊎ (2 ^ 26 ≤ b)

-- e is the k-th runend at or after slot s
pub record FoundRunend (r : ℕ) (ws : List ℕ) (s k e : ℕ) : Type 0 where
  pub from : s ≤ e
  pub one : runend_in r ws e ≡ 1
  pub nth : tally (runend_in r ws) (e + 1) ≡ tally (runend_in r ws) s + k

-- no slot that a u32 names is the k-th runend at or after slot s: k counts from 1, or there are fewer
abbrev pub NoRunend : ℕ → List ℕ → ℕ → ℕ → Type 0
NoRunend r ws s k = (k ≡ 0) ⊎ ((x : ℕ) → x ≤ 2 ^ 32 → tally (runend_in r ws) x < tally (runend_in r ws) s + k)

-- the k-th runend at or after slot s
abbrev pub NthRunend : ℕ → List ℕ → ℕ → ℕ → Option Slot → Type 0
NthRunend r ws s k (Some e) = FoundRunend r ws s k e.0
NthRunend r ws s k None = NoRunend r ws s k

-- s is the slot after the k-th runend at or after slot x, and x itself where k is 0
pub record AfterRunends (r : ℕ) (ws : List ℕ) (x k s : ℕ) : Type 0 where
  pub none : k ≡ 0 → s ≡ x
  pub some : 0 < k → (e : ℕ) × FoundRunend r ws x k e × (s ≡ suc e)

-- how many runs go on at slot c, in a block whose runs begin at or before c: the occupied quotients of the block below c, without the runs that end below c
abbrev pub open_at : ℕ → List ℕ → ℕ → ℕ
open_at r ws c =
    (tally (occupied_bit_in r ws) c - tally (occupied_bit_in r ws) (64 * (c / 64))) - (tally (runend_in r ws) c - tally (runend_in r ws) (head_in r ws (c / 64)))

-- the run after those that go on at slot c starts at slot x, and its runend e lies in the block of c
pub record FoundNext (r : ℕ) (ws : List ℕ) (c x e : ℕ) : Type 0 where
  pub begun : head_in r ws (c / 64) ≤ c
  pub start : AfterRunends r ws c (open_at r ws c) x
  pub end : FoundRunend r ws c (open_at r ws c + 1) e
  pub near : e / 64 ≡ c / 64

-- The run after those that go on at slot c: none where the runs of the block of c begin past c, or where no more runs end in it.
abbrev pub NextFrom : ℕ → List ℕ → ℕ → Option NextRun → Type 0
NextFrom r ws c (Some n) = FoundNext r ws c n.start.0 n.end.0
NextFrom r ws c None = (c < head_in r ws (c / 64)) ⊎ (tally (runend_in r ws) (64 * (c / 64) + 64) ≤ tally (runend_in r ws) c + open_at r ws c)
