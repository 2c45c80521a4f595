use Rattle.std.proofs.Common.{length, ap, ◌∙◌}
use Rattle.tables.specs.Rows.{keys_of}
use Rattle.tables.specs.Meaning.{Meaning}
use Rattle.listtable.specs.Lists.{list_capacity, list_meaning}
use Rattle.tables.proofs.Lookups.{keys_none}
use Rattle.kernwords.proofs.Runs.{performed}
use Rattle.kernwords.proofs.books.perform_all.Goals as goal

pub perform_on-requires-clause-empty : goal.perform_on-requires-clause-empty
perform_on-requires-clause-empty g c = ap (λ (m : Meaning _ _). keys_of m.rows) c.begin-table.ensures.empty ∙ keys_none _ _ (list_capacity (length c.args.records.now))

pub returns : goal.returns
returns g c =
    let t = c.perform_on.new.table in
    performed g.K.Kind.bytes (g.P.Fingerprint.number c.args.by.now) c.args.plan c.args.words.now c.perform_on.new.words (list_capacity (length c.args.records.now)) c.held.result
    (list_meaning c.begin-table.result.held c.begin-table.result.records.now) (list_meaning t.held t.records.now)
    c.args.calls.now c.perform_on.new.calls c.begin-table.ensures.empty c.held.ensures c.perform_on.ensures.law
