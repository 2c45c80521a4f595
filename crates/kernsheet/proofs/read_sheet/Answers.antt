use Rattle.kernsheet.proofs.Streams.{front_known}
use Rattle.kernsheet.proofs.read_sheet.Goals as goal

pub returns-clause-sheet : goal.returns-clause-sheet
returns-clause-sheet g c = front_known g.R.Read.remaining c.take.result c.args.input 65536 c.read_text.result c.take.ensures.limit c.take.ensures.inner c.read_text.ensures.text
