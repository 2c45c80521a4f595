use Rattle.book.proofs.Reaching.{empty_is_open}
use Rattle.book.proofs.laws.empty_is_open.Goals as goal

pub returns : goal.returns
returns g c = empty_is_open g.K.Kind.bytes g.met.K.Kind.apart
