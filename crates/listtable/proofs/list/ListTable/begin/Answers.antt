use Rattle.std.proofs.Common.{true, length, refl, ap, arith}
use Rattle.listtable.specs.Lists.{list_capacity}
use Rattle.listtable.proofs.Places.{none_held}
use Rattle.listtable.proofs.Lists.{apart_none}
use Rattle.listtable.proofs.list.ListTable.begin.Goals as goal

pub invariant_of-result : goal.invariant_of-result
invariant_of-result g c = record { within = omega arith; once = apart_none c.args.records.now }

pub returns : goal.returns
returns g c =
    let records = c.args.records.now in
    record { empty = ap (λ rows. record { rows = rows; admits = λ _. true; capacity = list_capacity (length records) }) (none_held records); records = refl; lender = refl }
