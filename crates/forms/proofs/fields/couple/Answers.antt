use Rattle.std.proofs.Common.{arith}
use Rattle.std.proofs.lemmas.Result.{err_from_is_err_and}
use Rattle.forms.proofs.Fieldings.{no_right, no_couple}
use Rattle.forms.proofs.fields.couple.Goals as goal

pub returns-in_err-right : goal.returns-in_err-right
returns-in_err-right c =
    let p = err_from_is_err_and c.from_residual-in_err-right.result c.from_residual-in_err-right.ensures.1 in
    let told = c.in_err-right.ensures in
    rw (p.1, p.2, told.0) (no_right c.args.bytes.now c.in_ok-left.rest.now c.in_ok-left.left c.in_ok-left.ensures told.1)

pub returns-in_err-glyph_number : goal.returns-in_err-glyph_number
returns-in_err-glyph_number c =
    let p = err_from_is_err_and c.from_residual-in_err-glyph_number.result c.from_residual-in_err-glyph_number.ensures.1 in
    let told = c.in_err-glyph_number.ensures in
    rw (p.1, p.2, told.0) (no_couple c.args.bytes.now c.in_ok-left.rest.now c.in_ok-left.left c.in_ok-right.right c.in_ok-left.ensures c.in_ok-right.ensures (λ h. omega (arith, told.1)))

pub returns-in_err-glyph_number-2 : goal.returns-in_err-glyph_number-2
returns-in_err-glyph_number-2 c =
    let p = err_from_is_err_and c.from_residual-in_err-glyph_number-2.result c.from_residual-in_err-glyph_number-2.ensures.1 in
    let told = c.in_err-glyph_number-2.ensures in
    rw (p.1, p.2, told.0) (no_couple c.args.bytes.now c.in_ok-left.rest.now c.in_ok-left.left c.in_ok-right.right c.in_ok-left.ensures c.in_ok-right.ensures (λ h. omega (arith, told.1)))
