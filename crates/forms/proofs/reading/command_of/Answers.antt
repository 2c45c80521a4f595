use Rattle.std.proofs.Common.{codes, refl, ap, w16, SFits, rules}
use Rattle.std.proofs.lemmas.Result.{err_from_is_err_and}
use Rattle.std.proofs.lemmas.Int.{to_z-of_z}
use Rattle.history.specs.declared.operation.Operation.TheVariants.{Put}
use Rattle.forms.specs.declared.command.Command.TheVariants.{Kern}
use Rattle.figures.proofs.Words.{begun}
use Rattle.forms.specs.Shapes.{pair, drop, find, lig, unlig, seek}
use Rattle.forms.proofs.Singles.{alone}
use Rattle.forms.proofs.Lines.{pair_fault, drop_fault, find_fault, lig_fault, unlig_fault, seek_fault}
use Rattle.forms.proofs.reading.command_of.Goals as goal

pub returns-in_err-left-in-112 : goal.returns-in_err-left-in-112
returns-in_err-left-in-112 c =
    let p = err_from_is_err_and c.from_residual-in_err-left-in-112.result c.from_residual-in_err-left-in-112.ensures.1 in
    rw (p.1, p.2) (alone _ _ (pair_fault c.args.line.now _ c.in_err-left-in-112.field-0.0 (search rules) (begun c.args.line.now (codes "pair ") (search rules) (search rules)) c.in_err-left-in-112.ensures))

pub returns-in_err-couple-in-102 : goal.returns-in_err-couple-in-102
returns-in_err-couple-in-102 c =
    let p = err_from_is_err_and c.from_residual-in_err-couple-in-102.result c.from_residual-in_err-couple-in-102.ensures.1 in
    rw (p.1, p.2) (alone _ _ (find_fault c.args.line.now _ c.in_err-couple-in-102.field-0.0 (search rules) (begun c.args.line.now (codes "find ") (search rules) (search rules)) c.in_err-couple-in-102.ensures))

pub returns-in_err-couple-in-100 : goal.returns-in_err-couple-in-100
returns-in_err-couple-in-100 c =
    let p = err_from_is_err_and c.from_residual-in_err-couple-in-100.result c.from_residual-in_err-couple-in-100.ensures.1 in
    rw (p.1, p.2) (alone _ _ (drop_fault c.args.line.now _ c.in_err-couple-in-100.field-0.0 (search rules) (begun c.args.line.now (codes "drop ") (search rules) (search rules)) c.in_err-couple-in-100.ensures))

pub returns-in_err-glyphs-in-108 : goal.returns-in_err-glyphs-in-108
returns-in_err-glyphs-in-108 c =
    let p = err_from_is_err_and c.from_residual-in_err-glyphs-in-108.result c.from_residual-in_err-glyphs-in-108.ensures.1 in
    rw (p.1, p.2) (alone _ _ (lig_fault c.args.line.now _ c.in_err-glyphs-in-108.field-0.0 (search rules) (begun c.args.line.now (codes "lig ") (search rules) (search rules)) c.in_err-glyphs-in-108.ensures))

pub returns-in_err-sequence-in-117 : goal.returns-in_err-sequence-in-117
returns-in_err-sequence-in-117 c =
    let p = err_from_is_err_and c.from_residual.result c.from_residual.ensures.1 in
    rw (p.1, p.2) (alone _ _ (unlig_fault c.args.line.now _ c.in_err-sequence-in-117.field-0.0 (search rules) (begun c.args.line.now (codes "unlig ") (search rules) (search rules)) c.in_err-sequence-in-117.ensures))

pub returns-in_err-sequence-in-115 : goal.returns-in_err-sequence-in-115
returns-in_err-sequence-in-115 c =
    let p = err_from_is_err_and c.from_residual-in_err-sequence-in-115.result c.from_residual-in_err-sequence-in-115.ensures.1 in
    rw (p.1, p.2) (alone _ _ (seek_fault c.args.line.now _ c.in_err-sequence-in-115.field-0.0 (search rules) (begun c.args.line.now (codes "seek ") (search rules) (search rules)) c.in_err-sequence-in-115.ensures))

pub returns-in_ok-left-in-112 : goal.returns-in_ok-left-in-112
returns-in_ok-left-in-112 c =
    let told = c.in_ok-left-in-112.ensures in
    let l = c.in_ok-left-in-112.left in
    let r = c.in_ok-left-in-112.right in
    let v = c.in_ok-left-in-112.value in
    let fits : SFits w16 v = search rules in
    alone _ _ (search rules, (pair l r v, (_, begun c.args.line.now (codes "pair ") (search rules) (search rules), told.3), (told.0, told.1, told.2), ap (λ n. Kern (Put (record { left = l; right = r }) n)) (to_z-of_z w16 v fits)))

pub returns-in_ok-couple-in-102 : goal.returns-in_ok-couple-in-102
returns-in_ok-couple-in-102 c =
    let told = c.in_ok-couple-in-102.ensures in
    alone _ _ (search rules, (find _ _, (_, begun c.args.line.now (codes "find ") (search rules) (search rules), told.0), (told.1, told.2), refl))

pub returns-in_ok-couple-in-100 : goal.returns-in_ok-couple-in-100
returns-in_ok-couple-in-100 c =
    let told = c.in_ok-couple-in-100.ensures in
    alone _ _ (search rules, (drop _ _, (_, begun c.args.line.now (codes "drop ") (search rules) (search rules), told.0), (told.1, told.2), refl))

pub returns-in_ok-glyphs-in-108 : goal.returns-in_ok-glyphs-in-108
returns-in_ok-glyphs-in-108 c =
    let told = c.in_ok-glyphs-in-108.ensures in
    alone _ _ (search rules, (lig _ _, (_, begun c.args.line.now (codes "lig ") (search rules) (search rules), told.0), (told.1, told.2), (_, refl, refl)))

pub returns-in_ok-sequence-in-117 : goal.returns-in_ok-sequence-in-117
returns-in_ok-sequence-in-117 c =
    let told = c.in_ok-sequence-in-117.ensures in
    alone _ _ (search rules, (unlig _, (_, begun c.args.line.now (codes "unlig ") (search rules) (search rules), told.0), told.1, (_, refl, refl)))

pub returns-in_ok-sequence-in-115 : goal.returns-in_ok-sequence-in-115
returns-in_ok-sequence-in-115 c =
    let told = c.in_ok-sequence-in-115.ensures in
    alone _ _ (search rules, (seek _, (_, begun c.args.line.now (codes "seek ") (search rules) (search rules), told.0), told.1, (_, refl, refl)))
