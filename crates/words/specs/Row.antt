-- A row of 64-bit words.
use Rattle.std.specs.Prelude.{◌≡◌, ℕ, ◌+◌, ◌*◌, ◌^◌, ◌<◌, ◌≤◌, ◌⊎◌, List, [], ◌∷◌}
use Rattle.std.specs.Int.{bit_at}

-- the words as one long number, the lowest word first
unfoldable pub long_number : List ℕ → ℕ
long_number [] = 0
long_number (w ∷ ws) = long_number ws * 2 ^ 64 + w

-- m has at `count` places from `at` on what n has from place `from` on, and elsewhere what n has
pub record Copied (n m from at count : ℕ) : Type 0 where
  pub here : (i : ℕ) → i < count → bit_at m (at + i) ≡ bit_at n (from + i)
  pub others : (i : ℕ) → (i < at) ⊎ (at + count ≤ i) → bit_at m i ≡ bit_at n i
