-- What the words of a filter mean.
use Rattle.std.specs.Prelude.{◌≡◌, ℕ, ◌+◌, ◌*◌, ◌≤◌, List, length, take}
use Rattle.layout.specs.Rule.{Sorted, Roomy}
use Rattle.blocks.specs.Views.{Shows, read_entries}

-- how many words that many blocks have
abbrev pub size_of : ℕ → ℕ → ℕ
size_of r blocks = blocks * (r + 3)

-- the fingerprints that the words of that many blocks hold, in rising order
abbrev pub fingerprints_in : ℕ → ℕ → List ℕ → List ℕ
fingerprints_in r blocks ws = read_entries r (64 * blocks) ws

-- the same of the words of a filter, of which those after its blocks are none of its own
abbrev pub entries_of : ℕ → ℕ → List ℕ → List ℕ
entries_of r blocks ws = fingerprints_in r blocks (take (size_of r blocks) ws)

-- just the words of that many blocks, and they hold a layout
pub record Sound (r blocks : ℕ) (ws : List ℕ) : Type 0 where
  pub few : blocks ≤ 16640
  pub sized : length ws ≡ size_of r blocks
  pub rising : Sorted (fingerprints_in r blocks ws)
  pub roomy : Roomy (64 * blocks) r (fingerprints_in r blocks ws)
  pub shows : Shows r ws (fingerprints_in r blocks ws)
