use Rattle.std.proofs.Common.{◌≡◌, Err, rules, codes, decimal}
use Rattle.answers.specs.Faults.{refusal_number}
use Rattle.kernwords.proofs.Pieces.{named_more, named_short, refused_line_ended}
use Rattle.kernwords.proofs.report.send_refused_line.Goals as goal

pub returns-in_err-send_named : goal.returns-in_err-send_named
returns-in_err-send_named g c =
    let line = c.args.line in
    let fault = c.in_err-send_named.field-0.0 in
    let same : c.from_residual.result ≡ Err fault = search rules in
    rw (same, refused_line_ended line) (named_short _ _ (codes "line ") (decimal line.line) _ 32 fault c.in_err-send_named.ensures)

pub returns : goal.returns
returns g c =
    let line = c.args.line in
    let number : c.from.result ≡ refusal_number line.fault = search rules in
    rw (refused_line_ended line, ← number) (named_more _ _ _ (codes "line ") (decimal line.line) _ 32 c.send_named-2.result c.in_ok-send_named.ensures c.send_named-2.ensures)
