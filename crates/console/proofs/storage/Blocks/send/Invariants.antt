use Rattle.std.proofs.Common.{◌≡◌, ◌+◌}
use Rattle.std.specs.Io.KnownBytes.{Appends}
use Rattle.std.specs.Iterator.Adapters.{enumerate_source, enumerate_count}
use Rattle.std.specs.Slice.Iter.{chunks_exact_rest, chunks_exact_size}
use Rattle.console.proofs.Printed.{After, first_lines}
use Rattle.console.proofs.storage.Blocks.send.Given as goal

abbrev pub invariant-loop-number : goal.invariant-loop-number
invariant-loop-number g l =
    (chunks_exact_size (enumerate_source l.number-iterator) ≡ l.self.plan.r + 3)
    × After (l.self.plan.r + 3) l.self.words.now (chunks_exact_rest (enumerate_source l.number-iterator)) (enumerate_count l.number-iterator)
    × Appends (g.W.Write.contents l.initial.out) (g.W.Write.contents l.out) (first_lines (l.self.plan.r + 3) l.self.words.now (enumerate_count l.number-iterator))
