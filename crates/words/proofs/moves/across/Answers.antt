use Rattle.std.proofs.Common.{◌-◌, arith}
use Rattle.words.proofs.Copies.{across_is}
use Rattle.words.proofs.moves.across.Goals as goal

pub returns : goal.returns
returns c = across_is c.args.high c.args.low c.args.i (64 - c.args.i) (omega arith) (omega arith)
