use Rattle.std.proofs.Common.{refl, rules}
use Rattle.figures.proofs.Runs.{no_figure}
use Rattle.figures.proofs.figure.Goals as goal

pub returns-in-empty : goal.returns-in-empty
returns-in-empty c =
    let cut = c.leading_digits in
    (refl, no_figure c.args.bytes.now cut.result.0.now cut.result.1.now cut.ensures.whole cut.ensures.digits cut.ensures.stops (search rules))
