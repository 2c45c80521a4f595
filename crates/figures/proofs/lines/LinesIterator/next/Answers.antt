use Rattle.std.proofs.Common.{length, ap, arith, rules}
use Rattle.figures.proofs.Cuts.{first_line, no_line}
use Rattle.figures.proofs.lines.LinesIterator.next.Goals as goal

pub returns-in_err-line-clause-steps : goal.returns-in_err-line-clause-steps
returns-in_err-line-clause-steps c =
    let none = no_line c.args.self.now.left.now c.in_err-line.ensures in
    rw c.from_residual.ensures (none, none)

pub returns-clause-steps : goal.returns-clause-steps
returns-clause-steps c = first_line c.args.self.now.left.now c.in_ok-line.line.now c.in_ok-line.rest.now c.in_ok-line.ensures

pub returns-clause-goes : goal.returns-clause-goes
returns-clause-goes c =
    let first = first_line c.args.self.now.left.now c.in_ok-line.line.now c.in_ok-line.rest.now c.in_ok-line.ensures in
    record { on = λ e. (tt, tt, omega (arith, ap length first)); keeps = search rules; rests = λ h. search rules }
