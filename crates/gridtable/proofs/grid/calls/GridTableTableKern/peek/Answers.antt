use Rattle.std.proofs.Common.{Some, sym, ap, ◌∙◌, arith, w16, SFits, rules}
use Rattle.std.proofs.lemmas.Int.{to_z-of_z}
use Rattle.gridtable.specs.Grids.{pair_at, pair_row}
use Rattle.gridtable.specs.Propers.{row_at, row_past}
use Rattle.gridtable.proofs.grid.calls.GridTableTableKern.peek.Goals as goal

pub returns-then-place-capacity : goal.returns-then-place-capacity
returns-then-place-capacity c =
    let e = c.capacity.ensures in
    sym (row_past c.args.self.now.side c.args.self.now.cells.now c.args.place (omega arith))

pub returns : goal.returns
returns c =
    let table = c.args.self.now in
    let e = c.capacity.ensures in
    let f : SFits w16 c.in_ok-value.value = search rules in
    ap (λ v. Some (record { key = pair_at table.side c.args.place; value = v })) (to_z-of_z w16 c.in_ok-value.value f)
    ∙ ap (pair_row (pair_at table.side c.args.place)) c.in_ok-value.ensures
    ∙ sym (row_at table.side table.cells.now c.args.place (omega arith))

pub returns-in_err-value : goal.returns-in_err-value
returns-in_err-value c =
    let table = c.args.self.now in
    let e = c.capacity.ensures in
    c.from_residual.ensures
    ∙ ap (pair_row (pair_at table.side c.args.place)) c.in_err-value.ensures
    ∙ sym (row_at table.side table.cells.now c.args.place (omega arith))
