use Rattle.std.proofs.Common.{length, rules, ap, ◌∙◌, arith}
use Rattle.kinds.specs.Bytes.{pair_bytes, sequence_bytes}
use Rattle.kinds.specs.Glyphs.{pair_bytes_one, sequence_bytes_one}
use Rattle.layout.specs.Format.{block_count}
use Rattle.filter.specs.declared.plan.Plan.{Plan}
use Rattle.kernsheet.proofs.Sofar.{lines_few}
use Rattle.kernsheet.proofs.Beginning.{fresh, lines_answer}
use Rattle.kernsheet.proofs.Ones.{one_answer}
use Rattle.kernsheet.proofs.Streams.{long_sent}
use Rattle.kernsheet.proofs.answer_sheet.Goals as goal

pub answer_lines-requires-clause-few : goal.answer_lines-requires-clause-few
answer_lines-requires-clause-few g c =
    let t = c.in-Ok.ensures in
    omega (arith, t.0, ap length t.1, lines_few c.args.sheet.now)

pub answer_lines-requires-clause-fresh_kerns : goal.answer_lines-requires-clause-fresh_kerns
answer_lines-requires-clause-fresh_kerns g c =
    fresh pair_bytes _ _ _ 256 c.begin-kern_table.ensures.empty pair_bytes_one c.begin-kern_table.result.once c.begin-kern_filter.ensures.empty

pub answer_lines-requires-clause-fresh_ligatures : goal.answer_lines-requires-clause-fresh_ligatures
answer_lines-requires-clause-fresh_ligatures g c =
    fresh sequence_bytes _ _ _ 64 c.begin-ligature_table.ensures.empty sequence_bytes_one c.begin-ligature_table.result.once c.begin-ligature_filter.ensures.empty

pub returns-in-Err : goal.returns-in-Err
returns-in-Err g c = search (rules, long_sent c.args.sheet.now)

pub returns : goal.returns
returns g c =
    let t = c.in-Ok.ensures in
    let q = λ (p : Plan). p.q in
    let r = λ (p : Plan). p.r in
    let said = c.answer_lines.ensures in (
      said.0,
      one_answer c.args.sheet.now said.0
          (lines_answer c.begin-kern_filter.result c.begin-ligature_filter.result _ _ c.begin-kern_table.ensures.empty c.begin-ligature_table.ensures.empty
          (c.begin-kern_filter.ensures.blocks ∙ ap (λ r. block_count r 135) c.plan_of.ensures.1)
          (c.begin-ligature_filter.ensures.blocks ∙ ap (λ r. block_count r 38) c.plan_of-2.ensures.1)
          c.args.sheet.now said.0 _ t.0 t.1
          (ap q c.begin-kern_filter.ensures.plan ∙ c.plan_of.ensures.0, ap r c.begin-kern_filter.ensures.plan ∙ c.plan_of.ensures.1)
          (ap q c.begin-ligature_filter.ensures.plan ∙ c.plan_of-2.ensures.0, ap r c.begin-ligature_filter.ensures.plan ∙ c.plan_of-2.ensures.1)
          said.1),
      said.2,
    )
