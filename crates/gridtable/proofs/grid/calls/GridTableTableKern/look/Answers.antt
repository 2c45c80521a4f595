use Rattle.std.proofs.Common.{sym, ◌∙◌}
use Rattle.gridtable.proofs.Squares.{found_below, found_value, missed_value}
use Rattle.gridtable.proofs.grid.calls.GridTableTableKern.look.Goals as goal

pub value_at-requires : goal.value_at-requires
value_at-requires c =
    let table = c.args.self.now in
    found_below table.side table.cells.now c.args.key c.in_ok-place.place table.room c.in_ok-place.ensures

pub returns : goal.returns
returns c =
    let table = c.args.self.now in
    found_value table.side table.cells.now c.args.key c.in_ok-place.place c.value_at.result c.in_ok-place.ensures c.value_at.ensures

pub returns-in_err-place : goal.returns-in_err-place
returns-in_err-place c =
    let table = c.args.self.now in
    c.from_residual.ensures ∙ sym (missed_value table.side table.cells.now c.args.key c.in_err-place.ensures)
