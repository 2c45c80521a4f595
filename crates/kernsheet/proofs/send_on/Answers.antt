use Rattle.std.proofs.Common.{◌≡◌, Ok, Err, rules}
use Rattle.console.proofs.Sendings.{sent_after, sent_short}
use Rattle.kernsheet.proofs.send_on.Goals as goal

pub returns-in_err-sent : goal.returns-in_err-sent
returns-in_err-sent g c = λ o part s.
    let was : c.args.sent ≡ Err c.in_err-sent.field-0.0 = search rules in
    let same : c.from_residual.result ≡ Err c.in_err-sent.field-0.0 = search rules in
    rw same (sent_short o _ part c.args.text.now c.in_err-sent.field-0.0 (rw was at s))

pub returns : goal.returns
returns g c = λ o part s.
    let was : c.args.sent ≡ Ok c.in_ok-sent.field-0 = search rules in
    sent_after o _ _ part c.args.text.now c.send.result (rw was at s) c.send.ensures
