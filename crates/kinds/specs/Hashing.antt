-- A hash fits its width.
use Rattle.std.specs.Prelude.{ℕ, ◌^◌, ◌<◌, List, [], ◌∷◌, fold}
use Rattle.std.proofs.Common.{arith, lit<}
use Rattle.kinds.specs.Hashes.{mixed, fnv, fibonacci}

folded_small : (h : ℕ) (bytes : List ℕ) → h < 2 ^ 64 → fold mixed h bytes < 2 ^ 64
folded_small h [] small = small
folded_small h (b ∷ bytes) small = folded_small (mixed h b) bytes (omega arith)

pub fnv_small : (bytes : List ℕ) → fnv bytes < 2 ^ 64
fnv_small bytes = folded_small 14695981039346656037 bytes (lit< tt)

pub fibonacci_small : (left right : ℕ) → fibonacci left right < 2 ^ 64
fibonacci_small left right = omega arith
