use Rattle.std.proofs.Common.{Ok, refl, rules}
use Rattle.history.specs.declared.answer.Stored.TheVariants.{Kept, Changed}
use Rattle.tables.proofs.Changes.{same_frame}
use Rattle.book.specs.Reached.{state, state_of}
use Rattle.book.proofs.Refusals.{cut_by}
use Rattle.book.proofs.Entries.{entry_came}
use Rattle.book.proofs.Holding.{same_self}
use Rattle.book.proofs.Reaching.{put_extends, put_refused}
use Rattle.book.proofs.book.Book.put.Goals as goal

-- a new key has its entry and its record
pub returns-clause-done : goal.returns-clause-done
returns-clause-done g c =
    let f = c.args.self.now.filter.now in
    let n = g.P.Fingerprint.number c.args.self.now.by.now c.args.key in
    let p = c.fingerprint_of-fingerprint.result in
    let came = entry_came f c.add.new.self p n _ (cut_by p n c.plan.result f.plan c.fingerprint_of-fingerprint.ensures c.plan.ensures) c.in_ok-add.ensures.done in
    (came.0, came.1, c.in_ok-set-2.ensures.done.2)

-- ---- the law, at each answer

pub returns-then-not-admits-clause-law : goal.returns-then-not-admits-clause-law
returns-then-not-admits-clause-law g c =
    put_refused g.K.Kind.bytes g.met.K.Kind.apart (state g.X.Table.meaning g.P.Fingerprint.number c.args.self.now) (g.X.Table.proper _ c.requires).once c.into.result c.args.key c.args.value (search rules)

pub returns-then-is_some-clause-law : goal.returns-then-is_some-clause-law
returns-then-is_some-clause-law g c =
    let s = state g.X.Table.meaning g.P.Fingerprint.number c.args.self.now in
    put_extends g.K.Kind.bytes g.met.K.Kind.apart s (state_of s.filter (g.X.Table.meaning c.set.new.self) s.number) (g.X.Table.proper _ c.requires).once (g.X.Table.proper _ c.set.ensures.sound).once
    refl (same_self s.filter) c.set.ensures.frame c.args.key c.args.value (Ok Changed) (search rules) (search rules)

pub returns-then-held-capacity-clause-law : goal.returns-then-held-capacity-clause-law
returns-then-held-capacity-clause-law g c =
    put_refused g.K.Kind.bytes g.met.K.Kind.apart (state g.X.Table.meaning g.P.Fingerprint.number c.args.self.now) (g.X.Table.proper _ c.requires).once c.into-then-held-capacity.result c.args.key c.args.value (search rules)

pub returns-in_err-add-clause-law : goal.returns-in_err-add-clause-law
returns-in_err-add-clause-law g c =
    let s = state g.X.Table.meaning g.P.Fingerprint.number c.args.self.now in
    put_extends g.K.Kind.bytes g.met.K.Kind.apart s (state_of c.add.new.self s.table s.number) (g.X.Table.proper _ c.requires).once (g.X.Table.proper _ c.requires).once
    refl c.add.ensures.same (same_frame s.table) c.args.key c.args.value c.from_residual-in_err-add.result (search rules) (search rules)

pub returns-clause-law : goal.returns-clause-law
returns-clause-law g c =
    let s = state g.X.Table.meaning g.P.Fingerprint.number c.args.self.now in
    put_extends g.K.Kind.bytes g.met.K.Kind.apart s (state_of c.add.new.self (g.X.Table.meaning c.set-2.new.self) s.number) (g.X.Table.proper _ c.requires).once (g.X.Table.proper _ c.set-2.ensures.sound).once
    refl c.add.ensures.same c.set-2.ensures.frame c.args.key c.args.value (Ok Kept) (search rules) (returns-clause-done g c)
