use Rattle.replay.proofs.replaying.perform.Goals as goal
use Rattle.replay.proofs.replaying.perform.Goals.{in-Put+in_ok-put-in-Put, in-Drop+in_ok-drop-in-Drop, in-Find}

pub returns-clause-law : goal.returns-clause-law
returns-clause-law g c start h r =
    elim c.match-operation.branch [
      | in-Put+in_ok-put-in-Put w ↦ rw (w.book-is, w.result-is, w.in-Put.is) (w.in_ok-put-in-Put.ensures.law start h r)
      | in-Drop+in_ok-drop-in-Drop w ↦ rw (w.book-is, w.result-is, w.in-Drop.is) (w.in_ok-drop-in-Drop.ensures.law start h r)
      | in-Find w ↦ rw (w.book-is, w.result-is, w.in-Find.is) (w.find.ensures.law start h r)
    ]
