use Rattle.std.proofs.Common.{refl, rules}
use Rattle.std.proofs.lemmas.Result.{err_from_is_err_and}
use Rattle.figures.proofs.Runs.{no_whole, no_whole_rest}
use Rattle.figures.proofs.whole.Goals as goal

pub returns-in_err-n : goal.returns-in_err-n
returns-in_err-n c =
    let p = err_from_is_err_and c.from_residual.result c.from_residual.ensures.1 in
    let told = c.in_err-n.ensures in
    rw (p.1, p.2) (told.0, no_whole c.args.bytes.now told.1)

pub returns-in_default : goal.returns-in_default
returns-in_default c = (refl, no_whole_rest c.args.bytes.now c.in_ok-n.field-0.1.now c.in_ok-n.field-0.0 c.in_ok-n.ensures (search rules))
