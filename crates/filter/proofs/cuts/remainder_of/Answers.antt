use Rattle.layout.specs.Rule.{remainder}
use Rattle.filter.proofs.cuts.remainder_of.Goals as goal

pub returns : goal.returns
unfolding remainder
returns c = c.low.ensures
