use Rattle.std.proofs.Common.{ℕ, ◌+◌, ap, ◌∙◌, inr, arith, rules}
use lib.Count.{count_trailing_zeros}
use Rattle.words.specs.Bits.{ones_under}
use Rattle.words.proofs.Ones.{Lowest, lowest, ones_few, ones_under_more, below_zero}
use Rattle.words.proofs.select.Goals as goal

pub returns-then-rest-eq0 : goal.returns-then-rest-eq0
returns-then-rest-eq0 c =
    inr (omega (arith, c.without_ones-rest.ensures 64, ap (λ x. ones_under x 64) c.if-rest-eq0.true ∙ below_zero 64))

pub returns-else-rest-eq0 : goal.returns-else-rest-eq0
returns-else-rest-eq0 c =
    let x = c.without_ones-rest.result in
    let t : ℕ = count_trailing_zeros 64 x in
    let low : Lowest x t = lowest x (omega arith) (search rules) in
    let a = c.without_ones-rest.ensures t in
    let b = c.without_ones-rest.ensures (t + 1) in
    let m = ones_under_more c.args.w t in
    (low.under, omega arith, omega arith)

pub returns-then-k-gt64 : goal.returns-then-k-gt64
returns-then-k-gt64 c = inr (omega (arith, ones_few c.args.w 64))
