use Rattle.std.proofs.Common.{vec_items}
use Rattle.figures.specs.Lines.{lines_of}
use Rattle.figures.specs.Coming.{lines_left}
use Rattle.batch.specs.Batches.{operations, Unanswered}
use Rattle.batch.proofs.Growing.{Sofar}
use Rattle.batch.proofs.reading.batch_of.Given as goal

abbrev pub invariant-loop-line : goal.invariant-loop-line
invariant-loop-line l =
    record {
      sofar : Sofar (lines_of l.text) (lines_left l.line-iterator) (operations (vec_items l.batch.kerns)) (operations (vec_items l.batch.ligatures)) (vec_items l.batch.lines);
      unanswered : Unanswered l.batch;
    }
