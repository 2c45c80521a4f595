use Rattle.std.proofs.Common.{Some, None, sym, ap, ◌∙◌}
use Rattle.listtable.proofs.Lists.{placed, looked_at}
use Rattle.listtable.proofs.list.calls.ListTableTable.look.Goals as goal

pub returns-in_err-place : goal.returns-in_err-place
returns-in_err-place g c =
    let table = c.args.self.now in
    c.from_residual.ensures ∙ sym (placed g.K.Kind.bytes g.met.K.Kind.apart table.held table.records.now table.within c.args.key None c.in_err-place.ensures)

pub returns : goal.returns
returns g c =
    let table = c.args.self.now in
    let at = placed g.K.Kind.bytes g.met.K.Kind.apart table.held table.records.now table.within c.args.key (Some c.in_ok-place.place) c.in_ok-place.ensures in
    ap (λ r. Some r.value) (sym c.index-self-place.is)
    ∙ looked_at g.K.Kind.bytes g.met.K.Kind.apart table.held table.records.now table.within table.once c.in_ok-place.place c.args.key c.index-self-place.result at c.index-self-place.is
