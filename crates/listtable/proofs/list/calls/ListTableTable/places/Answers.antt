use Rattle.std.proofs.Common.{sym, ◌∙◌}
use Rattle.listtable.specs.Propers.{length_places}
use Rattle.listtable.proofs.list.calls.ListTableTable.places.Goals as goal

pub returns : goal.returns
returns g c =
    let table = c.args.self.now in
    c.capacity.ensures ∙ sym (length_places table.held table.records.now table.within)
