use Rattle.std.specs.Io.KnownBytes.{Consumes}
use Rattle.console.proofs.text.read_text.Given as goal

abbrev pub invariant-loop : goal.invariant-loop
invariant-loop g l = Consumes (g.R.Read.remaining l.initial.input) (g.R.Read.remaining l.input) l.text.items
