-- Where a new entry comes and what its coming moves, and the same of one that goes. ps are the fingerprints held, in rising order.
use Rattle.std.specs.Prelude.{◌≡◌, ℕ, suc, ◌+◌, ◌-◌, ◌*◌, ◌<◌, ◌≤◌, Bool, ◌&&◌, List, ◌==◌, nat_lt, slice_index}
use Rattle.layout.specs.Rule.{quotient, remainder, many}
use Rattle.layout.specs.Runs.{remainders}
use Rattle.layout.specs.Load.{load, start, FirstFree, FirstIdle}
use Rattle.layout.specs.Moves.{Fit}

-- how many entries of the run of p lie before slot s
abbrev pub before : ℕ → List ℕ → ℕ → ℕ → ℕ
before r ps p s = s - start (many r ps) (quotient r p)

-- An entry of fingerprint p would come to slot s: there the remainders of its quotient c stay in rising order. Those from there on move up, to the first
-- free slot. It ends its run where it comes last; it follows others where it comes last after some.
pub record Arrives (r blocks : ℕ) (ps : List ℕ) (p c s free rem : ℕ) (ends follows : Bool) : Type 0 where
  pub its_quotient : c ≡ quotient r p
  pub its_remainder : rem ≡ remainder r p
  pub from : start (many r ps) (quotient r p) ≤ s
  pub fits : Fit (before r ps p s) (remainder r p) (remainders r ps (quotient r p))
  pub last : ends ≡ (before r ps p s == many r ps (quotient r p))
  pub more : follows ≡ (nat_lt 0 (before r ps p s) && before r ps p s == many r ps (quotient r p))
  pub first_free : FirstFree (many r ps) (quotient r p) free
  pub below : free < 64 * blocks

-- no entry of fingerprint p can come: all slots from that of its quotient on are used
abbrev pub NoneArrives : ℕ → ℕ → List ℕ → ℕ → Type 0
NoneArrives r blocks ps p = (x : ℕ) → quotient r p ≤ x → x < 64 * blocks → 0 < load (many r ps) x + many r ps x

-- The entry of fingerprint p in slot s would go. Those after it up to slot `gap` move down, and that slot is then free: the one before the first slot at which
-- no entry waits. It follows others where it is the last of its run after some; it is the only one where the run has no other.
pub record Departs (r blocks : ℕ) (ps : List ℕ) (p c s gap : ℕ) (follows only : Bool) : Type 0 where
  pub its_quotient : c ≡ quotient r p
  pub from : start (many r ps) (quotient r p) ≤ s
  pub in_run : before r ps p s < many r ps (quotient r p)
  pub found : slice_index (remainders r ps (quotient r p)) (before r ps p s) ≡ remainder r p
  pub more : follows ≡ (nat_lt 0 (before r ps p s) && suc (before r ps p s) == many r ps (quotient r p))
  pub alone : only ≡ (many r ps (quotient r p) == 1)
  pub idle : FirstIdle (many r ps) (quotient r p) (suc gap)
  pub below : gap < 64 * blocks
