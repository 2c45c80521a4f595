-- Values of the hash of a pair.
use Rattle.std.specs.Prelude.{◌≡◌, ℕ}

-- what a hash gives at three pairs
pub record PairExamples (hash : ℕ → ℕ → ℕ) : Type 0 where
  pub right_one : hash 0 1 ≡ 2042207799
  pub left_one : hash 1 0 ≡ 31161
  pub zeros : hash 0 0 ≡ 0
