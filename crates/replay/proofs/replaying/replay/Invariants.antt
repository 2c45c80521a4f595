use Rattle.book.specs.Reached.{state}
use Rattle.book.specs.Standings.{standing, Steady}
use Rattle.replay.proofs.Going.{Going}
use Rattle.replay.proofs.replaying.replay.Given as goal

abbrev pub invariant-loop-call : goal.invariant-loop-call
invariant-loop-call g l =
    let at = standing g.X.Table.meaning g.X.Table.lender g.X.Table.beyond g.P.Fingerprint.number in
    let s = state g.X.Table.meaning g.P.Fingerprint.number in
    record {
      sound : g.X.Table.sound l.book.table.now;
      steady : Steady (at l.fn.book) (at l.book);
      going : Going g.K.Kind.bytes (s l.fn.book) (s l.book) l.fn.calls l.calls l.call-index;
    }
