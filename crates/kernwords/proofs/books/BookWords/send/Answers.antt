use Rattle.std.proofs.Common.{◌≡◌, ◌+◌, Err, rules, vec_items, ap₂, subst, ◌∙◌}
use Rattle.console.specs.Texts.{blocks_text}
use Rattle.console.specs.Sending.{Sent}
use Rattle.console.proofs.Sendings.{sent_after, sent_short}
use Rattle.kernwords.specs.Reports.{heading_text}
use Rattle.kernwords.proofs.books.BookWords.send.Goals as goal

pub returns-in_err-send_heading : goal.returns-in_err-send_heading
returns-in_err-send_heading g c =
    let book = c.args.self.now in
    let fault = c.in_err-send_heading.field-0.0 in
    let same : c.from_residual.result ≡ Err fault = search rules in
    rw same (sent_short _ _ (heading_text book) _ fault c.in_err-send_heading.ensures)

pub returns : goal.returns
returns g c =
    let book = c.args.self.now in
    let size : c.of.result.plan.r ≡ book.size.plan.r = search rules in
    let words : c.of.result.words.now ≡ vec_items book.words = c.of.ensures.1 ∙ c.as_slice.ensures.value in
    let blocks = ap₂ (λ r ws. blocks_text (r + 3) ws) size words in
    sent_after _ _ _ (heading_text book) _ c.send.result c.in_ok-send_heading.ensures
    (subst (λ xs. Sent (g.W.Write.contents c.send_heading.new.out) (g.W.Write.contents c.send.new.out) xs c.send.result) blocks c.send.ensures)
