use Rattle.std.proofs.Common.{◌≡◌, Err, rules, [], ◌∷◌, ◌+◌, ◌++◌, drop, take, get_or, flat_map, sym, ap, ◌∙◌, subst, arith}
use Rattle.std.proofs.lemmas.List.{take_more, take_all, flat_map_more}
use Rattle.std.specs.Io.KnownBytes.{Appends}
use Rattle.answers.specs.declared.fault.Refusal.TheVariants.{LongSheet}
use Rattle.batch.specs.Reports.{refused_line_text}
use Rattle.batch.specs.declared.lines.RefusedLine.{RefusedLine}
use Rattle.console.proofs.Sendings.{appends_none, appends_more, flat_map_at, sent_part}
use Rattle.kernwords.proofs.report.send_refused.Goals as goal

pub loop-line-init : goal.loop-line-init
loop-line-init g c = appends_none (g.W.Write.contents c.args.out.now)

pub loop-line-preserved : goal.loop-line-preserved
loop-line-preserved g c =
    let rs = c.args.refused.now in
    let i = c.loop-line.line-index in
    let blank : RefusedLine = record { line = 0; fault = LongSheet } in
    let text = λ (l : RefusedLine). refused_line_text l ++ (10 ∷ []) in
    let next = flat_map_more text [] (take i rs) (get_or rs i blank) ∙ ap (flat_map text) (sym (take_more rs i blank (omega arith))) in
    subst (Appends (g.W.Write.contents c.args.out.now) (g.W.Write.contents c.send_refused_line.new.out)) next (appends_more _ _ _ _ _ c.loop-line.invariant c.in_ok-send_refused_line.ensures)

pub returns-in_err-send_refused_line : goal.returns-in_err-send_refused_line
returns-in_err-send_refused_line g c =
    let rs = c.args.refused.now in
    let i = c.loop-line.line-index in
    let blank : RefusedLine = record { line = 0; fault = LongSheet } in
    let text = λ (l : RefusedLine). refused_line_text l ++ (10 ∷ []) in
    let fault = c.in_err-send_refused_line.field-0.0 in
    let same : c.from_residual.result ≡ Err fault = search rules in
    rw same (sent_part _ _ _ (flat_map text (take i rs)) (text (get_or rs i blank)) (flat_map text (drop (i + 1) rs)) _ fault c.loop-line.invariant c.in_err-send_refused_line.ensures
    (flat_map_at text rs i blank c.loop-line-test.true))

pub returns : goal.returns
returns g c =
    let whole = ap (flat_map (λ (l : RefusedLine). refused_line_text l ++ (10 ∷ []))) (take_all c.loop-line.line-index c.args.refused.now c.loop-line-test.false) in
    subst (Appends (g.W.Write.contents c.args.out.now) (g.W.Write.contents c.loop-line.out)) whole c.loop-line.invariant
