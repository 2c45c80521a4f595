-- What one write changes, and what it leaves: vs are the words after it.
use Rattle.std.specs.Prelude.{◌≡◌, ℕ, ◌^◌, ◌<◌, cond, List, ◌==◌, slice_index, slice_set}
use Rattle.std.specs.Int.{bit_at}
use Rattle.blocks.specs.Views.{occupied_bit_in, runend_in, offset_in, remainder_in}

-- bit i of the word at `at` is v now, and all else is as it was
abbrev pub WithBit : List ℕ → List ℕ → ℕ → ℕ → ℕ → Type 0
WithBit ws vs at i v = (w : ℕ) × (w < 2 ^ 64) × ((k : ℕ) → k < 64 → bit_at w k ≡ cond (k == i) v (bit_at (slice_index ws at) k)) × (vs ≡ slice_set ws at w)

-- the occupied bit of quotient c is v now
pub record WroteOccupied (r : ℕ) (ws vs : List ℕ) (c v : ℕ) : Type 0 where
  pub occupied : (k : ℕ) → occupied_bit_in r vs k ≡ cond (k == c) v (occupied_bit_in r ws k)
  pub runends : (k : ℕ) → runend_in r vs k ≡ runend_in r ws k
  pub offsets : (k : ℕ) → offset_in r vs k ≡ offset_in r ws k
  pub remainders : (k : ℕ) → remainder_in r vs k ≡ remainder_in r ws k

-- the runend bit of slot s is v now
pub record WroteRunend (r : ℕ) (ws vs : List ℕ) (s v : ℕ) : Type 0 where
  pub occupied : (k : ℕ) → occupied_bit_in r vs k ≡ occupied_bit_in r ws k
  pub runends : (k : ℕ) → runend_in r vs k ≡ cond (k == s) v (runend_in r ws k)
  pub offsets : (k : ℕ) → offset_in r vs k ≡ offset_in r ws k
  pub remainders : (k : ℕ) → remainder_in r vs k ≡ remainder_in r ws k

-- the offset of block b is v now
pub record WroteOffset (r : ℕ) (ws vs : List ℕ) (b v : ℕ) : Type 0 where
  pub occupied : (k : ℕ) → occupied_bit_in r vs k ≡ occupied_bit_in r ws k
  pub runends : (k : ℕ) → runend_in r vs k ≡ runend_in r ws k
  pub offsets : (k : ℕ) → offset_in r vs k ≡ cond (k == b) v (offset_in r ws k)
  pub remainders : (k : ℕ) → remainder_in r vs k ≡ remainder_in r ws k

-- the remainder in slot s is v now
pub record WroteRemainder (r : ℕ) (ws vs : List ℕ) (s v : ℕ) : Type 0 where
  pub occupied : (k : ℕ) → occupied_bit_in r vs k ≡ occupied_bit_in r ws k
  pub runends : (k : ℕ) → runend_in r vs k ≡ runend_in r ws k
  pub offsets : (k : ℕ) → offset_in r vs k ≡ offset_in r ws k
  pub remainders : (k : ℕ) → remainder_in r vs k ≡ cond (k == s) v (remainder_in r ws k)
