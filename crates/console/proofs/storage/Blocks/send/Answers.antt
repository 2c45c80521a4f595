use Rattle.std.proofs.Common.{◌≡◌, Err, rules, ◌+◌, ◌-◌, ◌/◌, ◌<◌, length, ◌++◌, [], ◌∷◌, sym, ap, ◌∙◌, subst, arith, flat_map}
use Rattle.std.specs.Io.KnownBytes.{Appends}
use Rattle.std.specs.List.{range_with_len}
use Rattle.std.specs.Iterator.Adapters.{enumerate_source, enumerate_count}
use Rattle.std.specs.Slice.Iter.{chunks_exact_rest}
use Rattle.console.specs.Texts.{block_text, block_line}
use Rattle.console.proofs.Printed.{After, after_next, line_next, line_within, after_all, first_lines}
use Rattle.console.proofs.Sendings.{appends_more, sent_part}
use Rattle.console.proofs.storage.Blocks.send.Goals as goal

pub loop-number-preserved : goal.loop-number-preserved
loop-number-preserved g c =
    let size = c.args.self.now.plan.r + 3 in
    let ws = c.args.self.now.words.now in
    let block = c.in-Some.words.now in
    let k = enumerate_count c.loop-number.number-iterator in
    let rest = chunks_exact_rest (enumerate_source c.loop-number.number-iterator) in
    let more = chunks_exact_rest (enumerate_source c.next.new.self) in
    let inv = c.loop-number.invariant in
    let steps = c.in-Some.ensures.steps in
    let len = steps.0.1.1 ∙ inv.0 in
    let whole = ap (λ n. first_lines size ws k ++ (block_text n block ++ (10 ∷ []))) steps.1 ∙ line_next size ws rest block more k inv.1 steps.0.1.0 len ∙ ap (first_lines size ws) (sym steps.2) in (
      steps.0.0 ∙ inv.0,
      subst (After size ws more) (sym steps.2) (after_next size ws rest block more k inv.1 steps.0.1.0 len),
      subst (Appends (g.W.Write.contents c.args.out.now) (g.W.Write.contents c.send.new.out)) whole (appends_more _ _ _ _ _ inv.2 c.in_ok-send.ensures),
    )

pub returns-in_err-send : goal.returns-in_err-send
returns-in_err-send g c =
    let size = c.args.self.now.plan.r + 3 in
    let ws = c.args.self.now.words.now in
    let block = c.in-Some.words.now in
    let k = enumerate_count c.loop-number.number-iterator in
    let rest = chunks_exact_rest (enumerate_source c.loop-number.number-iterator) in
    let more = chunks_exact_rest (enumerate_source c.next.new.self) in
    let inv = c.loop-number.invariant in
    let steps = c.in-Some.ensures.steps in
    let fault = c.in_err-send.field-0.0 in
    let same : c.from_residual.result ≡ Err fault = search rules in
    rw same (sent_part _ _ _ (first_lines size ws k) (block_text c.in-Some.number block ++ (10 ∷ [])) (flat_map (block_line size ws) (range_with_len (k + 1) (length ws / size - (k + 1)))) _ fault inv.2 c.in_err-send.ensures
    (line_within size ws rest block more k c.in-Some.number (omega arith) inv.1 steps.0.1.0 (steps.0.1.1 ∙ inv.0) steps.1))

pub returns : goal.returns
returns g c =
    let size = c.args.self.now.plan.r + 3 in
    let ws = c.args.self.now.words.now in
    let inv = c.loop-number.invariant in
    let short = subst (λ n. length (chunks_exact_rest (enumerate_source c.loop-number.number-iterator)) < n) inv.0 c.in-None.ensures.steps.0.1.0 in
    subst (Appends (g.W.Write.contents c.args.out.now) (g.W.Write.contents c.loop-number.out)) (ap (first_lines size ws) (sym (after_all size ws _ _ inv.1 short))) inv.2
