use Rattle.std.proofs.Common.{◌≡◌, take, fold}
use Rattle.kinds.specs.Hashes.{mixed}
use Rattle.kinds.proofs.hash.fnv1a.Given as goal

abbrev pub invariant-loop-b : goal.invariant-loop-b
invariant-loop-b l = l.h ≡ fold mixed 14695981039346656037 (take l.b-index l.bytes)
