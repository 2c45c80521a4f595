use Rattle.console.proofs.Sendings.{Written}
use Rattle.console.proofs.output.send_rest.Given as goal

abbrev pub invariant-loop : goal.invariant-loop
invariant-loop g l = Written (g.W.Write.contents l.initial.out) (g.W.Write.contents l.out) l.text l.rest
