use Rattle.std.proofs.Common.{Ok, refl, rules}
use Rattle.tables.proofs.Changes.{same_frame}
use Rattle.book.specs.Reached.{state, state_of}
use Rattle.book.proofs.Refusals.{cut_by}
use Rattle.book.proofs.Entries.{entry_went, entry_was}
use Rattle.book.proofs.Reaching.{drop_extends, drop_refused}
use Rattle.book.proofs.book.Book.drop.Goals as goal

-- the entry and the record are gone
pub returns-clause-done : goal.returns-clause-done
returns-clause-done g c =
    let f = c.args.self.now.filter.now in
    let n = g.P.Fingerprint.number c.args.self.now.by.now c.args.key in
    let p = c.fingerprint_of-fingerprint.result in
    let went = entry_went f c.take.new.self p n c.take.result (cut_by p n c.plan.result f.plan c.fingerprint_of-fingerprint.ensures c.plan.ensures) c.in_ok-map_err.ensures.variant c.take.ensures.done in
    (went.0, went.1, c.in_ok-remove.ensures.done.1)

-- ---- the law, at each answer

pub returns-then-is_none-clause-law : goal.returns-then-is_none-clause-law
returns-then-is_none-clause-law g c =
    drop_refused g.K.Kind.bytes g.met.K.Kind.apart (state g.X.Table.meaning g.P.Fingerprint.number c.args.self.now) (g.X.Table.proper _ c.requires).once c.into.result c.args.key (search rules)

pub returns-in_err-map_err-clause-law : goal.returns-in_err-map_err-clause-law
returns-in_err-map_err-clause-law g c =
    let s = state g.X.Table.meaning g.P.Fingerprint.number c.args.self.now in
    drop_extends g.K.Kind.bytes g.met.K.Kind.apart s (state_of c.take.new.self s.table s.number) (g.X.Table.proper _ c.requires).once (g.X.Table.proper _ c.requires).once
    refl c.take.ensures.same (same_frame s.table) c.args.key c.from_residual.result (search rules) (search rules)

pub returns-clause-law : goal.returns-clause-law
returns-clause-law g c =
    let s = state g.X.Table.meaning g.P.Fingerprint.number c.args.self.now in
    let f = c.args.self.now.filter.now in
    let n = g.P.Fingerprint.number c.args.self.now.by.now c.args.key in
    let p = c.fingerprint_of-fingerprint.result in
    let was = entry_was f c.take.new.self p n c.take.result (cut_by p n c.plan.result f.plan c.fingerprint_of-fingerprint.ensures c.plan.ensures) c.in_ok-map_err.ensures.variant c.take.ensures.done in
    drop_extends g.K.Kind.bytes g.met.K.Kind.apart s (state_of c.take.new.self (g.X.Table.meaning c.remove.new.self) s.number) (g.X.Table.proper _ c.requires).once (g.X.Table.proper _ c.remove.ensures.sound).once
    refl c.take.ensures.same c.remove.ensures.frame c.args.key (Ok tt) (c.in_ok-remove.ensures.done.0, was) (returns-clause-done g c)
