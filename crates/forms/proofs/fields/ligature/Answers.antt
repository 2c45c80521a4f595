use Rattle.std.proofs.lemmas.Result.{err_from_is_err_and}
use Rattle.forms.proofs.Fieldings.{no_joined, no_joined_rest, no_joined_last}
use Rattle.forms.proofs.fields.ligature.Goals as goal

pub returns-in_err-row : goal.returns-in_err-row
returns-in_err-row c =
    let p = err_from_is_err_and c.from_residual.result c.from_residual.ensures.1 in
    let told = c.in_err-row.ensures in
    rw (p.1, p.2, told.0) (no_joined c.args.bytes.now told.1)

pub returns-in_err-after_as : goal.returns-in_err-after_as
returns-in_err-after_as c =
    let p = err_from_is_err_and c.from_residual-in_err-after_as.result c.from_residual-in_err-after_as.ensures.1 in
    let told = c.in_err-after_as.ensures in
    rw (p.1, p.2, told.0) (no_joined_rest c.args.bytes.now _ _ c.in_ok-row.ensures told.1)

pub returns-in_err-glyph : goal.returns-in_err-glyph
returns-in_err-glyph c =
    let p = err_from_is_err_and c.from_residual-in_err-glyph.result c.from_residual-in_err-glyph.ensures.1 in
    let told = c.in_err-glyph.ensures in
    rw (p.1, p.2, told.0) (no_joined_last c.args.bytes.now _ _ _ c.in_ok-row.ensures c.in_ok-after_as.ensures told.1)
