-- A rotation by half the width.
use Rattle.std.proofs.Common.{◌≡◌, ℕ, ◌*◌, ◌/◌, ◌%◌, ◌^◌, ◌<◌, ap, ◌∙◌, arith}
use lib.Bits.{bit_or, or_shifted}
use Rattle.kinds.specs.Hashes.{rotated}

-- it exchanges the halves
pub turned : (x : ℕ) → x < 2 ^ 32 → bit_or ((x * 2 ^ 16) % 2 ^ 32) (x / 2 ^ 16) ≡ rotated x
turned x small =
    let low : (x * 2 ^ 16) % 2 ^ 32 ≡ (x % 2 ^ 16) * 2 ^ 16 = omega arith in
    ap (λ y. bit_or y (x / 2 ^ 16)) low ∙ or_shifted (x % 2 ^ 16) 16 (x / 2 ^ 16) (omega arith)
