-- The words of a filter: bit by bit what the rule says of each slot. A block is r + 3 words for 64 slots.
use Rattle.std.specs.Prelude.{ℕ, ◌+◌, ◌-◌, ◌*◌, ◌/◌, ◌%◌, min, cond, List, map, ◌==◌}
use Rattle.std.specs.List.{range_with_len}
use Rattle.std.specs.Int.{bit_at}
use Rattle.words.specs.Bits.{bits}
use Rattle.layout.specs.Rule.{layout, occupied_at, runend_at, offset_at, remainder_at}

-- bit n of the row of remainders of block b: the row has r bits for each slot, so it is bit n % r of the remainder in the n / r-th slot of the block
abbrev pub row_bit : ℕ → List ℕ → ℕ → ℕ → ℕ
row_bit r ps b n = bit_at (remainder_at r (layout r ps) (64 * b + n / r)) (n % r)

-- Word m of block b. Word 0 has the occupied bits of its 64 quotients, word 1 the runend bits of its 64 slots,
-- word 2 the offset at its first slot, and the other r words are the row of remainders, lowest bit of the first word first.
unfoldable pub block_word : ℕ → List ℕ → ℕ → ℕ → ℕ
block_word r ps b m =
    cond (m == 0) (bits (λ i. occupied_at r ps (64 * b + i)) 64)
    (cond (m == 1) (bits (λ i. runend_at r (layout r ps) (64 * b + i)) 64)
    (cond (m == 2) (offset_at r (layout r ps) (64 * b))
    (bits (λ i. row_bit r ps b (64 * (m - 3) + i)) 64)))

-- the words of that many blocks that hold the layout of a list
unfoldable pub filter_words : ℕ → ℕ → List ℕ → List ℕ
filter_words r blocks ps = map (λ k. block_word r ps (k / (r + 3)) (k % (r + 3))) (range_with_len 0 (blocks * (r + 3)))

-- how many blocks a filter makes of n words: a rest is left over, and no filter has more than 16,640
abbrev pub block_count : ℕ → ℕ → ℕ
block_count r n = min (n / (r + 3)) 16640
