use Rattle.std.proofs.Common.{◌≡◌, ℕ, Err, rules, [], ◌∷◌, ◌++◌, decimal, ap₂, ap, ◌∙◌, subst, append_assoc}
use Rattle.console.specs.Sending.{Sent}
use Rattle.console.proofs.Sendings.{sent_after, sent_short}
use Rattle.filterlog.proofs.answers.send_entry.Goals as goal

pub returns-in_err-send_number : goal.returns-in_err-send_number
returns-in_err-send_number g c =
    let first = c.from.result in
    let rest = decimal c.args.remainder ++ (10 ∷ []) in
    let fault = c.in_err-send_number.field-0.0 in
    let same : c.from_residual.result ≡ Err fault = search rules in
    let quotient : first ≡ c.args.quotient.0 = search rules in
    let whole = append_assoc (decimal first) (32 ∷ []) rest ∙ ap (λ (q : ℕ). decimal q ++ (32 ∷ rest)) quotient in
    rw same (subst (λ xs. Sent (g.W.Write.contents c.args.out.now) (g.W.Write.contents c.send_number.new.out) xs (Err fault)) whole
    (sent_short _ _ (decimal first ++ (32 ∷ [])) rest fault c.in_err-send_number.ensures))

pub returns : goal.returns
returns g c =
    let first = c.from.result in
    let second = c.from-2.result in
    let rest = decimal second ++ (10 ∷ []) in
    let quotient : first ≡ c.args.quotient.0 = search rules in
    let remainder : second ≡ c.args.remainder = search rules in
    let whole = append_assoc (decimal first) (32 ∷ []) rest ∙ ap₂ (λ (q r : ℕ). decimal q ++ (32 ∷ (decimal r ++ (10 ∷ [])))) quotient remainder in
    subst (λ xs. Sent (g.W.Write.contents c.args.out.now) (g.W.Write.contents c.send_number-2.new.out) xs c.send_number-2.result) whole
    (sent_after _ _ _ (decimal first ++ (32 ∷ [])) rest c.send_number-2.result c.in_ok-send_number.ensures c.send_number-2.ensures)
