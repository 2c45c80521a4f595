use Rattle.std.proofs.Common.{ℕ, List}
use Rattle.std.specs.Io.KnownBytes.{Appends}
use Rattle.figures.specs.Coming.{lines_left}
use Rattle.filterlog.proofs.Growing.{Sofar}
use Rattle.filterlog.proofs.print_log.Given as goal

abbrev pub invariant-loop-line : goal.invariant-loop-line
invariant-loop-line g l = (said : List ℕ) × Sofar (lines_left l.initial.line-iterator) (lines_left l.line-iterator) l.initial.filter l.filter said
    × Appends (g.W.Write.contents l.initial.out) (g.W.Write.contents l.out) said
