use Rattle.std.proofs.Common.{refl}
use Rattle.layout.specs.Rule.{quotient, remainder, with_one, sorted, laid, reading_at, others, offset_at}
use Rattle.layout.specs.Laws.{run_from, read_from}
use Rattle.layout.specs.Examples.{Example}

pub example : Example
unfolding quotient remainder with_one sorted laid reading_at others offset_at run_from read_from
example = record { slots = refl; fingerprints = refl; occupied = refl; runends = refl; used = refl; remainders = refl; offsets = refl; from = refl; back = refl }
