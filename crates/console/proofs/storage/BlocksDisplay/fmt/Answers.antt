use Rattle.std.proofs.Common.{◌+◌, ◌<◌, length, ◌++◌, [], ◌∷◌, sym, ap, ◌∙◌, subst, rules}
use Rattle.std.proofs.Output.{has_written_append, has_written_of_eq}
use Rattle.std.specs.Fmt.{HasWritten}
use Rattle.std.specs.Iterator.Adapters.{enumerate_source, enumerate_count}
use Rattle.std.specs.Slice.Iter.{chunks_exact_rest}
use Rattle.console.specs.Texts.{block_text}
use Rattle.console.proofs.Printed.{After, after_next, line_next, after_all, first_lines}
use Rattle.console.proofs.storage.BlocksDisplay.fmt.Goals as goal

pub loop-number-preserved : goal.loop-number-preserved
loop-number-preserved g c =
    let size = c.args.self.now.plan.r + 3 in
    let ws = c.args.self.now.words.now in
    let block = c.in-Some.words.now in
    let k = enumerate_count c.loop-number.number-iterator in
    let rest = chunks_exact_rest (enumerate_source c.loop-number.number-iterator) in
    let more = chunks_exact_rest (enumerate_source c.next.new.self) in
    let inv = c.loop-number.invariant in
    let steps = c.in-Some.ensures.steps in
    let len = steps.0.1.1 ∙ inv.0 in (
      steps.0.0 ∙ inv.0,
      subst (After size ws more) (sym steps.2) (after_next size ws rest block more k inv.1 steps.0.1.0 len),
      λ p.
          let one : HasWritten g.W.Write.write_str_gives c.loop-number.f (block_text c.in-Some.number block ++ (10 ∷ [])) c.writeln.new.self = search rules in
          let whole = ap (λ n. first_lines size ws k ++ (block_text n block ++ (10 ∷ []))) steps.1 ∙ line_next size ws rest block more k inv.1 steps.0.1.0 len ∙ ap (first_lines size ws) (sym steps.2) in
          has_written_of_eq _ _ _ _ _ whole (has_written_append _ _ _ _ _ _ (inv.2 p) one),
    )

pub returns-clause-writes : goal.returns-clause-writes
returns-clause-writes g c = λ p e.
    let size = c.args.self.now.plan.r + 3 in
    let ws = c.args.self.now.words.now in
    let inv = c.loop-number.invariant in
    let short = subst (λ n. length (chunks_exact_rest (enumerate_source c.loop-number.number-iterator)) < n) inv.0 c.in-None.ensures.steps.0.1.0 in
    has_written_of_eq _ _ _ _ _ (ap (first_lines size ws) (sym (after_all size ws _ _ inv.1 short))) (inv.2 p)
