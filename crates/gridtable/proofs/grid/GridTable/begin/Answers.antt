use Rattle.std.proofs.Common.{◌≡◌, ◌*◌, ◌++◌, drop, replicate, ap, rules}
use Rattle.gridtable.specs.Grids.{free_cell}
use Rattle.gridtable.proofs.Squares.{begun}
use Rattle.gridtable.proofs.grid.GridTable.begin.Goals as goal

pub invariant_of-result : goal.invariant_of-result
invariant_of-result c =
    let side = c.side_of-side.result in
    let freed : c.fill.new.self ≡ replicate (side * side) free_cell = search rules in
    let t = begun c.args.n c.args.cells.now side (c.fill.new.self ++ drop (side * side) c.args.cells.now) c.side_of-side.ensures (ap (λ l. l ++ drop (side * side) c.args.cells.now) freed) in
    record { small = t.small; room = t.room; counted = t.counted }

pub returns-clause-empty : goal.returns-clause-empty
returns-clause-empty c =
    let side = c.side_of-side.result in
    let freed : c.fill.new.self ≡ replicate (side * side) free_cell = search rules in
    (begun c.args.n c.args.cells.now side (c.fill.new.self ++ drop (side * side) c.args.cells.now) c.side_of-side.ensures (ap (λ l. l ++ drop (side * side) c.args.cells.now) freed)).empty
