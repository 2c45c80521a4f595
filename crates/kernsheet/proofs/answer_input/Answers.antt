use Rattle.kernsheet.proofs.Streams.{replied}
use Rattle.kernsheet.proofs.answer_input.Goals as goal

pub returns : goal.returns
returns g c =
    let said = c.answer_sheet.ensures in
    replied g.W.Write.contents (g.R.Read.remaining c.args.input) c.args.out.now c.answer_sheet.new.out c.as_slice.result.now said.0 c.answer_sheet.result
    (rw (← c.as_slice.ensures.value) at c.in_ok-sheet.ensures.sheet) said.1 said.2
