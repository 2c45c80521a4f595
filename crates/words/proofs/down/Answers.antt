use Rattle.std.proofs.Common.{sym, arith}
use Rattle.words.proofs.Fields.{shr_past}
use Rattle.words.proofs.down.Goals as goal

pub returns-else-i-lt64 : goal.returns-else-i-lt64
returns-else-i-lt64 c = sym (shr_past c.args.w 64 c.args.i (omega arith) (omega arith))
