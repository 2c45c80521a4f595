use Rattle.std.proofs.Common.{vec_items}
use Rattle.filter.specs.Layouts.{bits_of, entries}
use Rattle.filter.proofs.Slotting.{ReadUpTo}
use Rattle.filter.proofs.laid.Layout.entries.Given as goal

-- the list has the entries of the slots below s
abbrev pub invariant-loop-s : goal.invariant-loop-s
invariant-loop-s l = ReadUpTo (bits_of l.self) (entries l.self) (vec_items l.list) l.s
