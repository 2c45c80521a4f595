-- The two hashes.
use Rattle.std.specs.Prelude.{ℕ, ◌+◌, ◌*◌, ◌/◌, ◌%◌, ◌^◌, List, fold, bit_xor}

-- one byte more of FNV-1a: the byte is joined by exclusive or, then the prime multiplies
abbrev pub mixed : ℕ → ℕ → ℕ
mixed h b = (bit_xor h b * 1099511628211) % 2 ^ 64

-- FNV-1a with 64 bits: the bytes are mixed in from first to last, beginning with the offset basis
abbrev pub fnv : List ℕ → ℕ
fnv bytes = fold mixed 14695981039346656037 bytes

-- the product of Fibonacci hashing, with 32 bits
abbrev pub spread : ℕ → ℕ → ℕ
spread left right = ((left * 65536 + right) * 2654435769) % 2 ^ 32

-- a number of 32 bits, rotated left by 16: its halves change places
abbrev pub rotated : ℕ → ℕ
rotated x = (x % 65536) * 65536 + x / 65536

-- Fibonacci hashing of a pair
abbrev pub fibonacci : ℕ → ℕ → ℕ
fibonacci left right = rotated (spread left right)
