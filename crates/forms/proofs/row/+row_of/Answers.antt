use Rattle.std.proofs.Common.{◌≡◌, [], ◌∷◌, sym, subst, arith, rules}
use Rattle.std.specs.Option.{option_map}
use Rattle.std.proofs.lemmas.Result.{err_from_is_err_and}
use Rattle.figures.proofs.Runs.{begins}
use Rattle.forms.specs.declared.row.Row.TheVariants.{One}
use Rattle.forms.specs.Rows.{Held}
use Rattle.forms.proofs.Keeping.{numbered, held_one}
use Rattle.forms.proofs.Rows.{shorter, goes_on, ends_at, row_alone, row_more, no_row, no_row_more}
use Rattle.forms.proofs.row.+row_of.Goals as goal

pub returns-in_err-n : goal.returns-in_err-n
returns-in_err-n t c =
    let p = err_from_is_err_and c.from_residual.result c.from_residual.ensures.1 in
    let told = c.in_err-n.ensures in
    rw (p.1, p.2) (told.0, no_row c.args.bytes.now told.1)

pub row_of-requires : goal.row_of-requires
row_of-requires t c = let less = shorter c.args.bytes.now c.in_ok-n.rest.now c.in_ok-n.n c.in_ok-n.ensures in (omega arith, tt)

pub returns-in_err-row-in-32 : goal.returns-in_err-row-in-32
returns-in_err-row-in-32 t c =
    let p = err_from_is_err_and c.from_residual-in_err-row-in-32.result c.from_residual-in_err-row-in-32.ensures.1 in
    let told = c.in_err-row-in-32.ensures in
    let rest = c.in_ok-n.rest.now in
    rw (p.1, p.2)
    (told.0, no_row_more c.args.bytes.now rest _ c.in_ok-n.n c.in_ok-n.ensures (begins rest 32 (search rules) (search rules)) (goes_on rest (search rules) (search rules) (search rules)) told.1)

pub returns-in_ok-row-in-32 : goal.returns-in_ok-row-in-32
returns-in_ok-row-in-32 t c =
    let rest = c.in_ok-n.rest.now in
    let read = c.in_ok-n.ensures in
    let glyph = numbered read.named c.in_ok-n.n c.glyph_number.result _ read.held c.glyph_number.ensures c.ok-glyph.ensures.value in
    row_more c.args.bytes.now rest _ c.in_ok-row-in-32.rest.now c.in_ok-n.n c.in_ok-row-in-32.row _ read (begins rest 32 (search rules) (search rules)) c.in_ok-row-in-32.ensures
    (λ ns. c.longer.ensures read.named ns glyph)

pub returns-in_default : goal.returns-in_default
returns-in_default t c =
    let rest = c.in_ok-n.rest.now in
    let read = c.in_ok-n.ensures in
    let glyph = numbered read.named c.in_ok-n.n c.glyph_number.result _ read.held c.glyph_number.ensures c.ok-glyph.ensures.value in
    let same : c.map.result ≡ option_map One c.ok-glyph.result = search rules in
    row_alone c.args.bytes.now rest c.in_ok-n.n _ read (ends_at rest read.stops (λ p q r s. search rules))
    (subst (λ row. Held row (read.named ∷ [])) (sym same) (held_one read.named c.ok-glyph.result glyph))
