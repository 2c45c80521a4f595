use Rattle.std.proofs.Common.{◌≡◌, ℕ, Err, rules, [], ◌∷◌, ◌+◌, drop, take, get_or, flat_map, sym, ap, ◌∙◌, subst, arith}
use Rattle.std.proofs.lemmas.List.{take_more, take_all, flat_map_more}
use Rattle.std.specs.Io.KnownBytes.{Appends}
use Rattle.console.specs.Sending.{Sent}
use Rattle.console.specs.Texts.{word_text}
use Rattle.console.proofs.Sendings.{appends_none, appends_more, flat_map_at, sent_part}
use Rattle.console.proofs.storage.send_words.Goals as goal

pub loop-word-init : goal.loop-word-init
loop-word-init g c = appends_none (g.W.Write.contents c.args.out.now)

pub loop-word-preserved : goal.loop-word-preserved
loop-word-preserved g c =
    let ws = c.args.words.now in
    let i = c.loop-word.word-index in
    let text = λ (w : ℕ). 32 ∷ word_text w in
    let one = subst (Appends (g.W.Write.contents c.loop-word.out) (g.W.Write.contents c.send.new.out)) c.spaced.ensures c.in_ok-send.ensures in
    let next = flat_map_more text [] (take i ws) (get_or ws i 0) ∙ ap (flat_map text) (sym (take_more ws i 0 (omega arith))) in
    subst (Appends (g.W.Write.contents c.args.out.now) (g.W.Write.contents c.send.new.out)) next (appends_more _ _ _ _ _ c.loop-word.invariant one)

pub returns-in_err-send : goal.returns-in_err-send
returns-in_err-send g c =
    let ws = c.args.words.now in
    let i = c.loop-word.word-index in
    let text = λ (w : ℕ). 32 ∷ word_text w in
    let fault = c.in_err-send.field-0.0 in
    let same : c.from_residual.result ≡ Err fault = search rules in
    let one = subst (λ xs. Sent (g.W.Write.contents c.loop-word.out) (g.W.Write.contents c.send.new.out) xs (Err fault)) c.spaced.ensures c.in_err-send.ensures in
    rw same (sent_part _ _ _ (flat_map text (take i ws)) (text (get_or ws i 0)) (flat_map text (drop (i + 1) ws)) _ fault c.loop-word.invariant one (flat_map_at text ws i 0 c.loop-word-test.true))

pub returns : goal.returns
returns g c =
    let whole = ap (flat_map (λ w. 32 ∷ word_text w)) (take_all c.loop-word.word-index c.args.words.now c.loop-word-test.false) in
    subst (Appends (g.W.Write.contents c.args.out.now) (g.W.Write.contents c.loop-word.out)) whole c.loop-word.invariant
