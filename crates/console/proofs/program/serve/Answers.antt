use Rattle.std.proofs.Common.{subst₂}
use Rattle.console.specs.Requests.{Requested}
use Rattle.console.proofs.Served.{served}
use Rattle.console.proofs.program.serve.Given.{F-post}
use Rattle.console.proofs.program.serve.Goals as goal

pub returns : goal.returns
returns g c =
    let prints = F-post g c.args.print c.args.rt in
    let asked = subst₂ Requested c.words_of.ensures c.in_ok-request.was c.of.ensures in
    served prints c.args.arguments.now asked c.print-done.ensures g.W.Write.contents _ c.conclude.result c.conclude.ensures
