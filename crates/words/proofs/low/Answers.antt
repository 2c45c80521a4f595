use Rattle.std.proofs.Common.{◌-◌, ap, ◌∙◌, arith}
use lib.Bits.{bit_and, and_mask}
use Rattle.std.proofs.lemmas.Nat.{one_shl}
use Rattle.words.proofs.low.Goals as goal

pub returns : goal.returns
returns c =
    let n = c.args.n in
    let k = c.args.width.bits in
    ap (λ x. bit_and n (x - 1)) (one_shl k 64 (omega arith)) ∙ and_mask n k
