use Rattle.std.proofs.Common.{◌≡◌, ◌+◌, ◌≤◌, [], ◌∷◌, length, take, drop}
use Rattle.console.proofs.Printed.{low_digits}
use Rattle.console.proofs.storage.spaced.Given as goal

abbrev pub invariant-loop-at : goal.invariant-loop-at
invariant-loop-at l =
    (l.at ≤ 16) × (length l.text ≡ 17) × (take 1 l.text ≡ 32 ∷ []) × (low_digits 16 l.word [] ≡ low_digits l.at l.left (drop (l.at + 1) l.text))
