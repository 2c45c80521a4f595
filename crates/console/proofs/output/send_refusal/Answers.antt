use Rattle.std.proofs.Common.{◌≡◌, Err, rules, subst, [], ◌∷◌, ◌++◌, codes, decimal}
use Rattle.std.specs.Io.KnownBytes.{Appends}
use Rattle.filter.specs.Faults.{filter_fault_number}
use Rattle.console.specs.Texts.{refusal_text}
use Rattle.console.specs.Sending.{Sent}
use Rattle.console.proofs.Sendings.{appends_more, sent_after, sent_short}
use Rattle.console.proofs.output.send_refusal.Goals as goal

pub returns-in_err-send : goal.returns-in_err-send
returns-in_err-send g c =
    let same : c.from_residual.result ≡ Err c.in_err-send.field-0.0 = search rules in
    rw same (sent_short _ _ (codes "refused ") (decimal (filter_fault_number c.args.fault) ++ (10 ∷ [])) c.in_err-send.field-0.0 c.in_err-send.ensures)

pub returns-in_err-send-2 : goal.returns-in_err-send-2
returns-in_err-send-2 g c =
    let same : c.from_residual-in_err-send-2.result ≡ Err c.in_err-send-2.field-0.0 = search rules in
    let digits : c.as_bytes.result.now ≡ decimal (filter_fault_number c.args.fault) = search rules in
    let number = subst (λ ds. Sent (g.W.Write.contents c.send.new.out) (g.W.Write.contents c.send-2.new.out) ds (Err c.in_err-send-2.field-0.0)) digits c.in_err-send-2.ensures in
    rw same (sent_short _ _ (refusal_text c.args.fault) (10 ∷ []) c.in_err-send-2.field-0.0 (sent_after _ _ _ (codes "refused ") _ (Err c.in_err-send-2.field-0.0) c.in_ok-send.ensures number))

pub returns : goal.returns
returns g c =
    let digits : c.as_bytes.result.now ≡ decimal (filter_fault_number c.args.fault) = search rules in
    let number = subst (λ ds. Appends (g.W.Write.contents c.send.new.out) (g.W.Write.contents c.send-2.new.out) ds) digits c.in_ok-send-2.ensures in
    sent_after _ _ _ (refusal_text c.args.fault) (10 ∷ []) c.send-3.result (appends_more _ _ _ (codes "refused ") _ c.in_ok-send.ensures number) c.send-3.ensures
