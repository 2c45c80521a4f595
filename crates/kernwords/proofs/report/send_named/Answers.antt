use Rattle.std.proofs.Common.{◌≡◌, Err, rules}
use Rattle.console.proofs.Sendings.{sent_after, sent_short}
use Rattle.kernwords.proofs.report.send_named.Goals as goal

pub returns-in_err-send : goal.returns-in_err-send
returns-in_err-send g c =
    let fault = c.in_err-send.field-0.0 in
    let same : c.from_residual.result ≡ Err fault = search rules in
    rw same (sent_short _ _ c.args.name.now _ fault c.in_err-send.ensures)

pub returns : goal.returns
returns g c = sent_after _ _ _ c.args.name.now _ c.send_number.result c.in_ok-send.ensures c.send_number.ensures
