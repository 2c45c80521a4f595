use Rattle.console.proofs.Served.{performed}
use Rattle.console.proofs.program.Program.perform.Goals as goal

pub returns : goal.returns
returns g c = performed _ _ _ _ _ c.serve.result c.in_ok-out.ensures.empty c.serve.ensures
