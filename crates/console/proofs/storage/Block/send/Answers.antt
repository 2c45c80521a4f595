use Rattle.std.proofs.Common.{◌≡◌, Err, rules, [], ◌∷◌, ◌++◌, codes, decimal, flat_map, ap, subst, append_assoc}
use Rattle.std.specs.Io.KnownBytes.{Appends}
use Rattle.console.specs.Sending.{Sent}
use Rattle.console.specs.Texts.{word_text, block_text}
use Rattle.console.proofs.Sendings.{appends_more, sent_after, sent_short, sent_part}
use Rattle.console.proofs.storage.Block.send.Goals as goal

pub returns-in_err-send : goal.returns-in_err-send
returns-in_err-send g c =
    let block = c.args.self.now in
    let words = flat_map (λ w. 32 ∷ word_text w) block.words.now in
    let fault = c.in_err-send.field-0.0 in
    let same : c.from_residual.result ≡ Err fault = search rules in
    rw same (sent_short _ _ (codes "block ") ((decimal block.number ++ words) ++ (10 ∷ [])) fault c.in_err-send.ensures)

pub returns-in_err-send-2 : goal.returns-in_err-send-2
returns-in_err-send-2 g c =
    let block = c.args.self.now in
    let words = flat_map (λ w. 32 ∷ word_text w) block.words.now in
    let fault = c.in_err-send-2.field-0.0 in
    let same : c.from_residual-in_err-send-2.result ≡ Err fault = search rules in
    let digits : c.as_bytes.result.now ≡ decimal block.number = search rules in
    let number = subst (λ ds. Sent (g.W.Write.contents c.send.new.out) (g.W.Write.contents c.send-2.new.out) ds (Err fault)) digits c.in_err-send-2.ensures in
    rw same (sent_part _ _ _ (codes "block ") (decimal block.number) (words ++ (10 ∷ [])) _ fault c.in_ok-send.ensures number
    (ap (λ xs. codes "block " ++ xs) (append_assoc (decimal block.number) words (10 ∷ []))))

pub returns-in_err-send_words : goal.returns-in_err-send_words
returns-in_err-send_words g c =
    let block = c.args.self.now in
    let words = flat_map (λ w. 32 ∷ word_text w) block.words.now in
    let fault = c.in_err-send_words.field-0.0 in
    let same : c.from_residual-in_err-send_words.result ≡ Err fault = search rules in
    let digits : c.as_bytes.result.now ≡ decimal block.number = search rules in
    let number = subst (λ ds. Appends (g.W.Write.contents c.send.new.out) (g.W.Write.contents c.send-2.new.out) ds) digits c.in_ok-send-2.ensures in
    let head = appends_more _ _ _ (codes "block ") (decimal block.number) c.in_ok-send.ensures number in
    rw same (sent_part _ _ _ (codes "block " ++ decimal block.number) words (10 ∷ []) _ fault head c.in_err-send_words.ensures
    (ap (λ xs. codes "block " ++ xs) (append_assoc (decimal block.number) words (10 ∷ []))))

pub returns : goal.returns
returns g c =
    let block = c.args.self.now in
    let words = flat_map (λ w. 32 ∷ word_text w) block.words.now in
    let digits : c.as_bytes.result.now ≡ decimal block.number = search rules in
    let number = subst (λ ds. Appends (g.W.Write.contents c.send.new.out) (g.W.Write.contents c.send-2.new.out) ds) digits c.in_ok-send-2.ensures in
    let body = appends_more _ _ _ (decimal block.number) words number c.in_ok-send_words.ensures in
    sent_after _ _ _ (block_text block.number block.words.now) (10 ∷ []) c.send-3.result (appends_more _ _ _ (codes "block ") (decimal block.number ++ words) c.in_ok-send.ensures body) c.send-3.ensures
