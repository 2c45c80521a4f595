-- What the passes that lay out a list leave in the words: vs are the words after them.
use Rattle.std.specs.Prelude.{◌≡◌, ℕ, cond, List, ◌==◌}
use Rattle.layout.specs.Rule.{laid, occupied_at, runend_at, remainder_at}
use Rattle.blocks.specs.Views.{occupied_bit_in, runend_in, offset_in, remainder_in}

-- one entry of quotient c with remainder v in slot s, whose runend bit is e
pub record Entered (r : ℕ) (ws vs : List ℕ) (c s v e : ℕ) : Type 0 where
  pub occupied : (k : ℕ) → occupied_bit_in r vs k ≡ cond (k == c) 1 (occupied_bit_in r ws k)
  pub runends : (k : ℕ) → runend_in r vs k ≡ cond (k == s) e (runend_in r ws k)
  pub offsets : (k : ℕ) → offset_in r vs k ≡ offset_in r ws k
  pub remainders : (k : ℕ) → remainder_in r vs k ≡ cond (k == s) v (remainder_in r ws k)

-- the entries of fingerprints in rising order, and no offset yet
pub record EntriesLaid (r : ℕ) (vs ps : List ℕ) : Type 0 where
  pub occupied : (c : ℕ) → occupied_bit_in r vs c ≡ occupied_at r ps c
  pub runends : (s : ℕ) → runend_in r vs s ≡ runend_at r (laid r 0 ps) s
  pub offsets : (b : ℕ) → offset_in r vs b ≡ 0
  pub remainders : (s : ℕ) → remainder_in r vs s ≡ remainder_at r (laid r 0 ps) s
