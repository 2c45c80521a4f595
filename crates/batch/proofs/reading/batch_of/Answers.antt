use Rattle.batch.proofs.Growing.{sofar_more, sofar_all}
use Rattle.batch.proofs.reading.batch_of.Goals as goal

pub loop-line-preserved : goal.loop-line-preserved
loop-line-preserved c = record {
  sofar = sofar_more _ _ _ _ _ _ _ _ _ _ c.loop-line.invariant.sofar c.in-Some.ensures.steps c.in_ok-note.ensures.noted;
  unanswered = c.in_ok-note.ensures.unanswered c.loop-line.invariant.unanswered;
}

pub returns-clause-sorted : goal.returns-clause-sorted
returns-clause-sorted c = sofar_all _ _ _ _ _ c.loop-line.invariant.sofar (c.in-None.ensures.steps).0
