use Rattle.std.proofs.Common.{inl, inr}
use Rattle.std.proofs.lemmas.Result.{err_from_is_err_and}
use Rattle.figures.proofs.Pairs.{bad_right, value_fault, too_large}
use Rattle.figures.proofs.pair_fields.Goals as goal

pub returns-in_err-right : goal.returns-in_err-right
returns-in_err-right c =
    let p = err_from_is_err_and c.from_residual-in_err-right.result c.from_residual-in_err-right.ensures.1 in
    let told = c.in_err-right.ensures in
    rw (p.1, p.2, told.0) (bad_right c.args.bytes.now c.in_ok-left.rest.now c.in_ok-left.left c.in_ok-left.ensures told.1)

pub returns-in_err-value : goal.returns-in_err-value
returns-in_err-value c =
    let p = err_from_is_err_and c.from_residual-in_err-value.result c.from_residual-in_err-value.ensures.1 in
    rw (p.1, p.2)
    (value_fault c.args.bytes.now c.in_ok-left.rest.now c.in_ok-right.rest.now c.in_ok-left.left c.in_ok-right.right _
    c.in_ok-left.ensures c.in_ok-right.ensures c.in_err-value.ensures)

pub returns-in_err-glyph_number : goal.returns-in_err-glyph_number
returns-in_err-glyph_number c =
    let p = err_from_is_err_and c.from_residual-in_err-glyph_number.result c.from_residual-in_err-glyph_number.ensures.1 in
    let told = c.in_err-glyph_number.ensures in
    rw (p.1, p.2, told.0)
    (too_large c.args.bytes.now c.in_ok-left.rest.now c.in_ok-right.rest.now c.in_ok-left.left c.in_ok-right.right c.in_ok-value.value
    c.in_ok-left.ensures c.in_ok-right.ensures c.in_ok-value.ensures.1 (inl told.1))

pub returns-in_err-glyph_number-2 : goal.returns-in_err-glyph_number-2
returns-in_err-glyph_number-2 c =
    let p = err_from_is_err_and c.from_residual-in_err-glyph_number-2.result c.from_residual-in_err-glyph_number-2.ensures.1 in
    let told = c.in_err-glyph_number-2.ensures in
    rw (p.1, p.2, told.0)
    (too_large c.args.bytes.now c.in_ok-left.rest.now c.in_ok-right.rest.now c.in_ok-left.left c.in_ok-right.right c.in_ok-value.value
    c.in_ok-left.ensures c.in_ok-right.ensures c.in_ok-value.ensures.1 (inr told.1))
