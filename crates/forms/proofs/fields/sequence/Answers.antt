use Rattle.std.proofs.Common.{rules}
use Rattle.std.proofs.lemmas.Result.{err_from_is_err_and}
use Rattle.forms.proofs.Fieldings.{no_numbers, no_numbers_rest}
use Rattle.forms.proofs.fields.sequence.Goals as goal

pub returns-in_err-row : goal.returns-in_err-row
returns-in_err-row c =
    let p = err_from_is_err_and c.from_residual.result c.from_residual.ensures.1 in
    let told = c.in_err-row.ensures in
    rw (p.1, p.2, told.0) (no_numbers c.args.bytes.now told.1)

pub returns-in_default : goal.returns-in_default
returns-in_default c = no_numbers_rest c.args.bytes.now _ _ c.in_ok-row.ensures (search rules)
