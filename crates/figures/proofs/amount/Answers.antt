use Rattle.std.proofs.Common.{◌<◌, arith, rules}
use Rattle.figures.proofs.Runs.{begins}
use Rattle.figures.proofs.Weights.{plain, signed, kept, negated}
use Rattle.figures.proofs.amount.Goals as goal

pub returns-in_default-2 : goal.returns-in_default-2
returns-in_default-2 c =
    let n = c.in_ok-n-in-45.n in
    let whole = c.in_ok-n-in-45.ensures in
    let some : 0 < n = search rules in
    signed c.args.bytes.now _ n _ c.value_number.result (begins c.args.bytes.now 45 (search rules) (search rules)) whole some
    (negated c.from.result n c.from.ensures some (omega (arith, whole.2))) c.value_number.ensures

pub returns-in_ok-whole-in_default : goal.returns-in_ok-whole-in_default
returns-in_ok-whole-in_default c =
    let n = c.in_ok-whole-in_default.field-0 in
    let whole = c.in_ok-whole-in_default.ensures in
    plain c.args.bytes.now n _ c.value_number-in_default.result whole
    (kept c.from-in_default.result n c.from-in_default.ensures (omega (arith, whole.2))) c.value_number-in_default.ensures
