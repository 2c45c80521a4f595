use Rattle.std.proofs.Common.{arith, rules}
use Rattle.layout.specs.Rule.{quotient}
use Rattle.filter.proofs.cuts.quotient_of.Goals as goal

pub overflow_cast-result-2 : goal.overflow_cast-result-2
unfolding quotient
overflow_cast-result-2 c = omega arith

pub returns : goal.returns
unfolding quotient
returns c = search rules
