use Rattle.std.proofs.Common.{take}
use Rattle.book.specs.Reached.{state}
use Rattle.booktrial.specs.Client.{TriedEach}
use Rattle.booktrial.proofs.client.try_each.Given as goal

abbrev pub invariant-loop-key : goal.invariant-loop-key
invariant-loop-key g l =
    let at = state g.X.Table.meaning g.P.Fingerprint.number in
    record {
      sound : g.X.Table.sound l.book.table.now;
      tried : TriedEach g.K.Kind.bytes (at l.fn.book) (at l.book) l.value (take l.key-index l.keys);
    }
