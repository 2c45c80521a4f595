use Rattle.book.proofs.Refusals.{cut_by}
use Rattle.book.specs.Reached.{state_of}
use Rattle.book.proofs.Reaching.{find_extends}
use Rattle.book.proofs.Entries.{entry_there, entry_nowhere}
use Rattle.book.proofs.calls.find.Goals as goal

-- an entry has the fingerprint, and the table says the value
pub returns-then-there-clause-answer : goal.returns-then-there-clause-answer
returns-then-there-clause-answer g c =
    let f = c.args.filter.now in
    let n = g.P.Fingerprint.number c.args.by.now c.args.key in
    let p = c.fingerprint_of.result in
    (entry_there f p n c.in-Ok.there (cut_by p n c.plan.result f.plan c.fingerprint_of.ensures c.plan.ensures) c.in-Ok.ensures c.if-there.true, c.look.ensures)

-- no entry has it
pub returns-else-there-clause-answer : goal.returns-else-there-clause-answer
returns-else-there-clause-answer g c =
    let f = c.args.filter.now in
    let n = g.P.Fingerprint.number c.args.by.now c.args.key in
    let p = c.fingerprint_of.result in
    entry_nowhere f p n c.in-Ok.there (cut_by p n c.plan.result f.plan c.fingerprint_of.ensures c.plan.ensures) c.in-Ok.ensures c.if-there.false

pub returns-then-there-clause-law : goal.returns-then-there-clause-law
returns-then-there-clause-law g c =
    let s = state_of c.args.filter.now (g.X.Table.meaning c.args.table.now) (g.P.Fingerprint.number c.args.by.now) in
    find_extends g.K.Kind.bytes g.met.K.Kind.apart s (g.X.Table.proper c.args.table.now c.requires).once c.args.key _ (returns-then-there-clause-answer g c)

pub returns-else-there-clause-law : goal.returns-else-there-clause-law
returns-else-there-clause-law g c =
    let s = state_of c.args.filter.now (g.X.Table.meaning c.args.table.now) (g.P.Fingerprint.number c.args.by.now) in
    find_extends g.K.Kind.bytes g.met.K.Kind.apart s (g.X.Table.proper c.args.table.now c.requires).once c.args.key _ (returns-else-there-clause-answer g c)
