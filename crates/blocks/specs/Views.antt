-- What the words of a filter show at each quotient, slot and block. Past the last word all is 0.
use Rattle.std.specs.Prelude.{◌≡◌, ℕ, ◌+◌, ◌*◌, ◌/◌, ◌%◌, List, slice_index}
use Rattle.std.specs.Int.{bit_at}
use Rattle.words.specs.Bits.{field}
use Rattle.words.specs.Row.{long_number}
use Rattle.layout.specs.Rule.{laid, occupied_at, runend_at, offset_at, remainder_at}
use Rattle.layout.specs.Laws.{read_from}

-- which word is word m of block b, where a block is r + 3 words
abbrev pub word_index : ℕ → ℕ → ℕ → ℕ
word_index r b m = b * (r + 3) + m

-- the occupied bit of quotient c: bit c % 64 of word 0 of block c / 64
unfoldable pub occupied_bit_in : ℕ → List ℕ → ℕ → ℕ
occupied_bit_in r ws c = bit_at (slice_index ws (word_index r (c / 64) 0)) (c % 64)

-- the runend bit of slot s: bit s % 64 of word 1 of block s / 64
unfoldable pub runend_in : ℕ → List ℕ → ℕ → ℕ
runend_in r ws s = bit_at (slice_index ws (word_index r (s / 64) 1)) (s % 64)

-- the offset of block b: its word 2
unfoldable pub offset_in : ℕ → List ℕ → ℕ → ℕ
offset_in r ws b = slice_index ws (word_index r b 2)

-- the slot at which the runs of a block's quotients begin: its first slot, past the entries that come from before it
abbrev pub head_in : ℕ → List ℕ → ℕ → ℕ
head_in r ws b = 64 * b + offset_in r ws b

-- the bit at which the runend bit of slot s lies, of all bits of the words
abbrev pub runend_place : ℕ → ℕ → ℕ
runend_place r s = 64 * word_index r (s / 64) 1 + s % 64

-- the bit at which the remainder of slot s begins, of all bits of the words
abbrev pub remainder_place : ℕ → ℕ → ℕ
remainder_place r s = 64 * word_index r (s / 64) 3 + s % 64 * r

-- the remainder in slot s: the r bits from there on
unfoldable pub remainder_in : ℕ → List ℕ → ℕ → ℕ
remainder_in r ws s = field (long_number ws) (remainder_place r s) r

-- the words show the layout of fingerprints in rising order
pub record Shows (r : ℕ) (ws ps : List ℕ) : Type 0 where
  pub occupied : (c : ℕ) → occupied_bit_in r ws c ≡ occupied_at r ps c
  pub runends : (s : ℕ) → runend_in r ws s ≡ runend_at r (laid r 0 ps) s
  pub offsets : (b : ℕ) → offset_in r ws b ≡ offset_at r (laid r 0 ps) (64 * b)
  pub remainders : (s : ℕ) → remainder_in r ws s ≡ remainder_at r (laid r 0 ps) s

-- the fingerprints read back from words of that many slots, in rising order
abbrev pub read_entries : ℕ → ℕ → List ℕ → List ℕ
read_entries r slots ws = read_from slots r (occupied_bit_in r ws) (remainder_in r ws) (runend_in r ws) slots 0 0
