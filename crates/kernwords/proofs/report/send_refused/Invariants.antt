use Rattle.std.proofs.Common.{[], ◌∷◌, ◌++◌, take, flat_map}
use Rattle.std.specs.Io.KnownBytes.{Appends}
use Rattle.batch.specs.Reports.{refused_line_text}
use Rattle.kernwords.proofs.report.send_refused.Given as goal

abbrev pub invariant-loop-line : goal.invariant-loop-line
invariant-loop-line g l =
    Appends (g.W.Write.contents l.initial.out) (g.W.Write.contents l.out) (flat_map (λ r. refused_line_text r ++ (10 ∷ [])) (take l.line-index l.refused))
