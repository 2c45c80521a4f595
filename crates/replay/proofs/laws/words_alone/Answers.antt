use Rattle.replay.proofs.Words.{words_alone}
use Rattle.replay.proofs.laws.words_alone.Goals as goal

pub returns : goal.returns
returns g c = words_alone _ g.K.Kind.bytes
