use Rattle.std.proofs.Common.{sym, ap, ◌∙◌, subst}
use Rattle.std.specs.Bool.{then_some}
use Rattle.gridtable.specs.Grids.{HeldPlace}
use Rattle.gridtable.proofs.Squares.{found_below, found_held, missed_value}
use Rattle.gridtable.proofs.grid.GridTable.held_place.Goals as goal

pub returns-in_err-place : goal.returns-in_err-place
returns-in_err-place c =
    let table = c.args.self.now in
    subst (λ o. HeldPlace table.side table.cells.now c.args.pair o) (sym c.from_residual.ensures) (missed_value table.side table.cells.now c.args.pair c.in_err-place.ensures)

pub value_at-requires : goal.value_at-requires
value_at-requires c =
    let table = c.args.self.now in
    found_below table.side table.cells.now c.args.pair c.in_ok-place.place table.room c.in_ok-place.ensures

pub returns : goal.returns
returns c =
    let table = c.args.self.now in
    subst (λ o. HeldPlace table.side table.cells.now c.args.pair o) (sym (c.then_some.ensures ∙ ap (λ b. then_some b c.in_ok-place.place) c.is_some.ensures))
    (found_held table.side table.cells.now c.args.pair c.in_ok-place.place c.value_at.result c.in_ok-place.ensures c.value_at.ensures)
