use Rattle.std.proofs.Common.{refl, rules}
use Rattle.book.specs.Reached.{state, state_of}
use Rattle.kernwords.proofs.books.perform_on.Goals as goal

pub returns-clause-law : goal.returns-clause-law
returns-clause-law g c = record {
  start = state_of c.begin-filter.result (g.X.Table.meaning c.args.table.now) (g.P.Fingerprint.number c.args.by.now);
  begins = (c.begin-filter.ensures.plan, c.begin-filter.ensures.blocks, refl, refl);
  now = state g.X.Table.meaning g.P.Fingerprint.number c.replay.new.book;
  ends = (search rules, search rules);
  replayed = c.in-Ok.ensures.law;
}
