use Rattle.std.proofs.Common.{◌≡◌, ℕ, Err, rules, [], ◌∷◌, ◌+◌, ◌++◌, drop, take, get_or, flat_map, sym, ap, ◌∙◌, subst, arith, append_assoc}
use Rattle.std.proofs.lemmas.List.{take_more, take_all, flat_map_more}
use Rattle.std.specs.Fmt.{decimal}
use Rattle.std.specs.Io.KnownBytes.{Appends}
use Rattle.console.specs.Sending.{Sent}
use Rattle.console.proofs.Sendings.{appends_none, appends_more, flat_map_at, sent_part, sent_after}
use Rattle.filterlog.specs.Answers.{list_text}
use Rattle.filterlog.proofs.Listing.{list_last}
use Rattle.filterlog.proofs.answers.send_list.Goals as goal

pub loop-number-init : goal.loop-number-init
loop-number-init g c = appends_none (g.W.Write.contents c.args.out.now)

pub loop-number-preserved : goal.loop-number-preserved
loop-number-preserved g c =
    let ns = c.in-Some.front.now in
    let i = c.loop-number.number-index in
    let text = λ (n : ℕ). decimal n ++ (32 ∷ []) in
    let next = flat_map_more text [] (take i ns) (get_or ns i 0) ∙ ap (flat_map text) (sym (take_more ns i 0 (omega arith))) in
    subst (Appends (g.W.Write.contents c.args.out.now) (g.W.Write.contents c.send_number.new.out)) next (appends_more _ _ _ _ _ c.loop-number.invariant c.in_ok-send_number.ensures)

pub returns-in_err-send_number : goal.returns-in_err-send_number
returns-in_err-send_number g c =
    let ns = c.in-Some.front.now in
    let i = c.loop-number.number-index in
    let text = λ (n : ℕ). decimal n ++ (32 ∷ []) in
    let end = decimal c.in-Some.last.now ++ (10 ∷ []) in
    let fault = c.in_err-send_number.field-0.0 in
    let same : c.from_residual.result ≡ Err fault = search rules in
    let whole = ap list_text (c.in-Some.ensures.cases).0 ∙ list_last ns c.in-Some.last.now ∙ ap (λ xs. xs ++ end) (flat_map_at text ns i 0 c.loop-number-test.true)
    ∙ append_assoc (flat_map text (take i ns)) (text (get_or ns i 0) ++ flat_map text (drop (i + 1) ns)) end ∙ ap (λ xs. flat_map text (take i ns) ++ xs) (append_assoc (text (get_or ns i 0)) (flat_map text (drop (i + 1) ns)) end) in
    rw same (sent_part _ _ _ (flat_map text (take i ns)) (text (get_or ns i 0)) (flat_map text (drop (i + 1) ns) ++ end) _ fault c.loop-number.invariant c.in_err-send_number.ensures whole)

pub returns : goal.returns
returns g c =
    let ns = c.in-Some.front.now in
    let text = λ (n : ℕ). decimal n ++ (32 ∷ []) in
    let end = decimal c.in-Some.last.now ++ (10 ∷ []) in
    let whole = ap (λ xs. flat_map text xs ++ end) (take_all c.loop-number.number-index ns c.loop-number-test.false) ∙ sym (list_last ns c.in-Some.last.now) ∙ ap list_text (sym (c.in-Some.ensures.cases).0) in
    subst (λ xs. Sent (g.W.Write.contents c.args.out.now) (g.W.Write.contents c.send_number-2.new.out) xs c.send_number-2.result) whole
    (sent_after _ _ _ (flat_map text (take c.loop-number.number-index ns)) end c.send_number-2.result c.loop-number.invariant c.send_number-2.ensures)
