use Rattle.std.proofs.Common.{sym}
use Rattle.listtable.specs.Propers.{count_places}
use Rattle.listtable.proofs.list.calls.ListTableTable.held.Goals as goal

pub returns : goal.returns
returns g c =
    let table = c.args.self.now in
    sym (count_places table.held table.records.now table.within)
