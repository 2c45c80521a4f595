use Rattle.std.proofs.Common.{rules}
use Rattle.kinds.proofs.Turns.{turned}
use Rattle.kinds.proofs.fingerprint.FibonacciFingerprintKern.fingerprint.Goals as goal

pub returns : goal.returns
returns c = search (rules, turned)
