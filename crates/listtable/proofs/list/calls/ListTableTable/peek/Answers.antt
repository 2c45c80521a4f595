use Rattle.std.proofs.Common.{slice_get, sym, ap, ◌∙◌}
use Rattle.listtable.proofs.Places.{held_row, item_copied}
use Rattle.listtable.proofs.list.calls.ListTableTable.peek.Goals as goal

pub returns : goal.returns
returns g c =
    let table = c.args.self.now in
    c.copied.ensures
    ∙ item_copied c.entries.result.now c.args.place c.get.result c.get.ensures.lookup
    ∙ ap (λ entries. slice_get entries c.args.place) c.entries.ensures
    ∙ sym (held_row table.held table.records.now c.args.place table.within)
