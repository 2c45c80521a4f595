-- The bits of a number, lowest first: places count from 0.
use Rattle.std.specs.Prelude.{◌≡◌, ℕ, zero, suc, ◌+◌, ◌*◌, ◌/◌, ◌%◌, ◌^◌, ◌<◌, ◌⊎◌, Some, None, Option}
use Rattle.std.specs.Int.{bit_at}

-- the number that the k bits of n from place p on make
abbrev pub field : ℕ → ℕ → ℕ → ℕ
field n p k = n / 2 ^ p % 2 ^ k

-- the number whose bit at place i is f i, for the places below n
unfoldable pub bits : (ℕ → ℕ) → ℕ → ℕ
bits f zero = 0
bits f (suc n) = bits f n + f n * 2 ^ n

-- how many of the places below m hold a one
unfoldable pub ones_under : ℕ → ℕ → ℕ
ones_under n zero = 0
ones_under n (suc m) = ones_under n m + bit_at n m

-- the place of the k-th one of the 64-bit word w, counted from 1: a one with k - 1 ones below it, or none where w has too few
abbrev pub Selected : ℕ → ℕ → Option ℕ → Type 0
Selected w k (Some p) = (p < 64) × (bit_at w p ≡ 1) × (ones_under w p + 1 ≡ k)
Selected w k None = (k ≡ 0) ⊎ (ones_under w 64 < k)
