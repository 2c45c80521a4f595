-- What one entry more or less changes in the words: vs are the words after it.
use Rattle.std.specs.Prelude.{◌≡◌, ℕ, suc, ◌+◌, ◌*◌, ◌<◌, ◌≤◌, Bool, cond, ◌&&◌, List, ◌==◌, nat_le, nat_lt}
use Rattle.layout.specs.Rule.{one_if}
use Rattle.blocks.specs.Views.{occupied_bit_in, runend_in, offset_in, remainder_in}

-- An entry of quotient c with remainder v came to slot p, and those from there up to the free slot u moved up by one. Its runend bit is last;
-- where it follows the others of its run, the slot before it ends no run any more.
pub record EntryPut (r : ℕ) (ws vs : List ℕ) (c p u v : ℕ) (last follows : Bool) : Type 0 where
  pub occupied : (k : ℕ) → occupied_bit_in r vs k ≡ cond (k == c) 1 (occupied_bit_in r ws k)
  pub rem_below : (k : ℕ) → k < p → remainder_in r vs k ≡ remainder_in r ws k
  pub rem_here : remainder_in r vs p ≡ v
  pub rem_moved : (k : ℕ) → p ≤ k → k < u → remainder_in r vs (suc k) ≡ remainder_in r ws k
  pub rem_above : (k : ℕ) → u < k → remainder_in r vs k ≡ remainder_in r ws k
  pub end_below : (k : ℕ) → suc k < p → runend_in r vs k ≡ runend_in r ws k
  pub end_before : (k : ℕ) → suc k ≡ p → runend_in r vs k ≡ cond follows 0 (runend_in r ws k)
  pub end_here : runend_in r vs p ≡ one_if last
  pub end_moved : (k : ℕ) → p ≤ k → k < u → runend_in r vs (suc k) ≡ runend_in r ws k
  pub end_above : (k : ℕ) → u < k → runend_in r vs k ≡ runend_in r ws k
  pub offsets : (b : ℕ) → offset_in r vs b ≡ offset_in r ws b + one_if (nat_lt c (64 * b) && nat_le (64 * b) u)

-- The entry of quotient c in slot p is gone, and those after it up to slot u moved down by one; slot u is free. Where it was the last of a run of
-- others, the slot before it ends the run; where it was the only one, quotient c is not occupied any more.
pub record EntryGone (r : ℕ) (ws vs : List ℕ) (c p u : ℕ) (follows only : Bool) : Type 0 where
  pub occupied : (k : ℕ) → occupied_bit_in r vs k ≡ cond (k == c) (cond only 0 1) (occupied_bit_in r ws k)
  pub rem_below : (k : ℕ) → k < p → remainder_in r vs k ≡ remainder_in r ws k
  pub rem_moved : (k : ℕ) → p ≤ k → k < u → remainder_in r vs k ≡ remainder_in r ws (suc k)
  pub rem_gap : remainder_in r vs u ≡ 0
  pub rem_above : (k : ℕ) → u < k → remainder_in r vs k ≡ remainder_in r ws k
  pub end_below : (k : ℕ) → suc k < p → runend_in r vs k ≡ runend_in r ws k
  pub end_before : (k : ℕ) → suc k ≡ p → runend_in r vs k ≡ cond follows 1 (runend_in r ws k)
  pub end_moved : (k : ℕ) → p ≤ k → k < u → runend_in r vs k ≡ runend_in r ws (suc k)
  pub end_gap : runend_in r vs u ≡ 0
  pub end_above : (k : ℕ) → u < k → runend_in r vs k ≡ runend_in r ws k
  pub offsets : (b : ℕ) → offset_in r vs b + one_if (nat_lt c (64 * b) && nat_le (64 * b) u) ≡ offset_in r ws b
