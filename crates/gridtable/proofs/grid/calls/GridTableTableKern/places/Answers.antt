use Rattle.std.proofs.Common.{sym, ◌∙◌}
use Rattle.gridtable.specs.Propers.{length_rows}
use Rattle.gridtable.proofs.grid.calls.GridTableTableKern.places.Goals as goal

pub returns : goal.returns
returns c = c.capacity.ensures ∙ sym (length_rows c.args.self.now.side c.args.self.now.cells.now)
