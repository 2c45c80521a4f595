use Rattle.std.proofs.Common.{◌*◌, ◌/◌, ◌^◌, ◌<◌, ap, ◌∙◌, mod-eq_of_lt, lt_of_le_of_lt, arith}
use native.Mathlib.Nat.{div-mul-le_self}
use Rattle.words.specs.Bits.{ones_under}
use Rattle.words.proofs.Ones.{from_place, below_zero, none_past}
use Rattle.words.proofs.ones_from.Goals as goal

pub returns-then-i-lt64 : goal.returns-then-i-lt64
returns-then-i-lt64 c n =
    let w = c.args.w in
    let i = c.args.i in
    let fits : w / 2 ^ i * 2 ^ i < 2 ^ 64 = lt_of_le_of_lt (div-mul-le_self w (2 ^ i)) (omega arith) in
    ap (λ x. ones_under x n) (mod-eq_of_lt fits) ∙ from_place w i n

pub returns-else-i-lt64 : goal.returns-else-i-lt64
returns-else-i-lt64 c n = omega (arith, below_zero n, none_past c.args.w 64 c.args.i n (omega arith) (omega arith))
