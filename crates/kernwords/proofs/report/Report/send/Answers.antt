use Rattle.std.proofs.Common.{◌≡◌, Err, rules, codes}
use Rattle.console.proofs.Sendings.{sent_after, sent_short}
use Rattle.kernwords.specs.Reports.{book_text}
use Rattle.kernwords.proofs.report.Report.send.Goals as goal

pub returns-in_err-send_refused : goal.returns-in_err-send_refused
returns-in_err-send_refused g c =
    let fault = c.in_err-send_refused.field-0.0 in
    let same : c.from_residual.result ≡ Err fault = search rules in
    rw (same, ← c.as_slice.ensures.value) (sent_short _ _ _ _ fault c.in_err-send_refused.ensures)

pub returns-in_err-send : goal.returns-in_err-send
returns-in_err-send g c =
    let fault = c.in_err-send.field-0.0 in
    let same : c.from_residual-in_err-send.result ≡ Err fault = search rules in
    rw (same, ← c.as_slice.ensures.value) (sent_after _ _ _ _ _ (Err fault) c.in_ok-send_refused.ensures
    (sent_short _ _ (codes "kern ") _ fault c.in_err-send.ensures))

pub returns-in_err-send-2 : goal.returns-in_err-send-2
returns-in_err-send-2 g c =
    let report = c.args.self.now in
    let fault = c.in_err-send-2.field-0.0 in
    let same : c.from_residual-in_err-send-2.result ≡ Err fault = search rules in
    rw (same, ← c.as_slice.ensures.value) (sent_after _ _ _ _ _ (Err fault) c.in_ok-send_refused.ensures
    (sent_after _ _ _ (codes "kern ") _ (Err fault) c.in_ok-send.ensures
    (sent_short _ _ (book_text report.kerns) _ fault c.in_err-send-2.ensures)))

pub returns-in_err-send-3 : goal.returns-in_err-send-3
returns-in_err-send-3 g c =
    let report = c.args.self.now in
    let fault = c.in_err-send-3.field-0.0 in
    let same : c.from_residual-in_err-send-3.result ≡ Err fault = search rules in
    rw (same, ← c.as_slice.ensures.value) (sent_after _ _ _ _ _ (Err fault) c.in_ok-send_refused.ensures
    (sent_after _ _ _ (codes "kern ") _ (Err fault) c.in_ok-send.ensures
    (sent_after _ _ _ (book_text report.kerns) _ (Err fault) c.in_ok-send-2.ensures
    (sent_short _ _ (codes "ligature ") _ fault c.in_err-send-3.ensures))))

pub returns : goal.returns
returns g c =
    let report = c.args.self.now in
    rw (← c.as_slice.ensures.value) (sent_after _ _ _ _ _ c.send-4.result c.in_ok-send_refused.ensures
    (sent_after _ _ _ (codes "kern ") _ c.send-4.result c.in_ok-send.ensures
    (sent_after _ _ _ (book_text report.kerns) _ c.send-4.result c.in_ok-send-2.ensures
    (sent_after _ _ _ (codes "ligature ") _ c.send-4.result c.in_ok-send-3.ensures c.send-4.ensures))))
