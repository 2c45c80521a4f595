-- What a move of entries or of offsets changes, and what it leaves: vs are the words after it.
use Rattle.std.specs.Prelude.{◌≡◌, ℕ, suc, ◌+◌, ◌-◌, ◌*◌, ◌/◌, ◌^◌, ◌<◌, ◌≤◌, min, cond, ◌&&◌, List, length, ◌==◌, nat_le, nat_lt}
use Rattle.blocks.specs.Views.{occupied_bit_in, runend_in, offset_in, remainder_in}

-- the first n blocks, of r + 3 words each, lie wholly within the words
abbrev pub BlocksWithin : ℕ → List ℕ → ℕ → Type 0
BlocksWithin r ws n = n * (r + 3) ≤ length ws

-- the whole block of slot s lies within the words
abbrev pub BlockWithin : ℕ → List ℕ → ℕ → Type 0
BlockWithin r ws s = BlocksWithin r ws (s / 64 + 1)

-- g has what f has at the places `from` to `to - 1`, one place up, and elsewhere what f has
pub record OnePlaceUp (f g : ℕ → ℕ) (from to : ℕ) : Type 0 where
  pub moved : (k : ℕ) → from ≤ k → k < to → g (suc k) ≡ f k
  pub below : (k : ℕ) → k ≤ from → g k ≡ f k
  pub above : (k : ℕ) → to < k → g k ≡ f k

-- g has what f has at the places `from + 1` to `to`, one place down, and elsewhere what f has
pub record OnePlaceDown (f g : ℕ → ℕ) (from to : ℕ) : Type 0 where
  pub moved : (k : ℕ) → from ≤ k → k < to → g k ≡ f (suc k)
  pub below : (k : ℕ) → k < from → g k ≡ f k
  pub above : (k : ℕ) → to ≤ k → g k ≡ f k

-- the entries of the slots `from` to `to - 1` are one slot up now
pub record MovedUp (r : ℕ) (ws vs : List ℕ) (from to : ℕ) : Type 0 where
  pub occupied : (k : ℕ) → occupied_bit_in r vs k ≡ occupied_bit_in r ws k
  pub runends : OnePlaceUp (runend_in r ws) (runend_in r vs) from to
  pub offsets : (k : ℕ) → offset_in r vs k ≡ offset_in r ws k
  pub remainders : OnePlaceUp (remainder_in r ws) (remainder_in r vs) from to

-- the entries of the slots `from + 1` to `to` are one slot down now
pub record MovedDown (r : ℕ) (ws vs : List ℕ) (from to : ℕ) : Type 0 where
  pub occupied : (k : ℕ) → occupied_bit_in r vs k ≡ occupied_bit_in r ws k
  pub runends : OnePlaceDown (runend_in r ws) (runend_in r vs) from to
  pub offsets : (k : ℕ) → offset_in r vs k ≡ offset_in r ws k
  pub remainders : OnePlaceDown (remainder_in r ws) (remainder_in r vs) from to

-- the entry of slot j stands in slot i too now
pub record CopiedEntry (r : ℕ) (ws vs : List ℕ) (j i : ℕ) : Type 0 where
  pub occupied : (k : ℕ) → occupied_bit_in r vs k ≡ occupied_bit_in r ws k
  pub runends : (k : ℕ) → runend_in r vs k ≡ cond (k == i) (runend_in r ws j) (runend_in r ws k)
  pub offsets : (k : ℕ) → offset_in r vs k ≡ offset_in r ws k
  pub remainders : (k : ℕ) → remainder_in r vs k ≡ cond (k == i) (remainder_in r ws j) (remainder_in r ws k)

-- one more, and at most the largest number of 64 bits
abbrev pub raised : ℕ → ℕ
raised n = min (suc n) (2 ^ 64 - 1)

-- one less, and at least 0
abbrev pub lowered : ℕ → ℕ
lowered n = n - 1

-- the offsets of the blocks `from` to `to - 1` are what `change` makes of them
pub record ChangedOffsets (change : ℕ → ℕ) (r : ℕ) (ws vs : List ℕ) (from to : ℕ) : Type 0 where
  pub occupied : (k : ℕ) → occupied_bit_in r vs k ≡ occupied_bit_in r ws k
  pub runends : (k : ℕ) → runend_in r vs k ≡ runend_in r ws k
  pub offsets : (k : ℕ) → offset_in r vs k ≡ cond (nat_le from k && nat_lt k to) (change (offset_in r ws k)) (offset_in r ws k)
  pub remainders : (k : ℕ) → remainder_in r vs k ≡ remainder_in r ws k
