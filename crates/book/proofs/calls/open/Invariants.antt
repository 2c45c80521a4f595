use Rattle.book.proofs.Opening.{Filled}
use Rattle.book.proofs.calls.open.Given as goal

abbrev pub invariant-loop-place : goal.invariant-loop-place
invariant-loop-place g l = Filled (g.P.Fingerprint.number l.by) l.initial.filter (g.X.Table.meaning l.table).rows l.filter l.place
