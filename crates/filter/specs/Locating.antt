-- Where runs lie in the words.
use Rattle.std.specs.Prelude.{◌≡◌, ℕ, ◌+◌, ◌-◌, ◌≤◌, List, slice_index}
use Rattle.layout.specs.Rule.{quotient, remainder, many}
use Rattle.layout.specs.Runs.{remainders}
use Rattle.layout.specs.Load.{start, tally}
use Rattle.filter.specs.Slots.{InRun}

-- slot x lies from slot c up to the start of the run of c, and k runs end from there up to that start
pub record RunsAhead (m end : ℕ → ℕ) (c x k : ℕ) : Type 0 where
  pub from : c ≤ x
  pub upto : x ≤ start m c
  pub runs : tally end x + k ≡ tally end (start m c)

-- an entry of fingerprint p lies in slot s of words that hold ps, in the run of its quotient c, which takes the slots from `from` up to `to`
pub record Placed (r : ℕ) (ps : List ℕ) (p c from to s : ℕ) : Type 0 where
  pub its_quotient : c ≡ quotient r p
  pub starts : from ≡ start (many r ps) (quotient r p)
  pub stops : to ≡ from + many r ps (quotient r p)
  pub in_run : InRun (many r ps) (quotient r p) s
  pub found : slice_index (remainders r ps (quotient r p)) (s - from) ≡ remainder r p
