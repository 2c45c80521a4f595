use Rattle.std.proofs.Common.{refl, rules}
use Rattle.std.proofs.lemmas.Result.{err_from_is_err_and}
use Rattle.figures.proofs.Runs.{not_begun}
use Rattle.figures.proofs.Pairs.{spaced_none, spaced_other}
use Rattle.figures.proofs.spaced.Goals as goal

pub returns-in_err-figure : goal.returns-in_err-figure
returns-in_err-figure c =
    let p = err_from_is_err_and c.from_residual.result c.from_residual.ensures.1 in
    let told = c.in_err-figure.ensures in
    rw (p.1, p.2) (told.0, spaced_none c.args.bytes.now told.1)

pub returns-in_default : goal.returns-in_default
returns-in_default c =
    let rest = c.in_ok-figure.field-0.1.now in
    (refl, spaced_other c.args.bytes.now rest c.in_ok-figure.field-0.0 c.in_ok-figure.ensures (not_begun rest 32 (search rules)))
