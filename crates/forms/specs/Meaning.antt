-- What a line means.
use Rattle.std.specs.Prelude.{◌≡◌, ℕ, ◌<◌, ◌≤◌, false, List, length, Ok, Err, Result}
use Rattle.std.specs.List.{AllByRecursion as Every}
use Rattle.history.specs.declared.operation.Operation.TheVariants.{Put, Drop, Find}
use Rattle.kinds.specs.declared.sequence.Sequence.{Sequence}
use Rattle.kinds.specs.declared.ligature.KeyFault.TheVariants.{BadSequence}
use Rattle.kinds.specs.Sequences.{glyphs_of, two_to_four}
use Rattle.figures.specs.Numbers.{Glyph, FitsValue}
use Rattle.forms.specs.declared.command.Command.{Command}
use Rattle.forms.specs.declared.command.Command.TheVariants.{Kern, Ligature}
use Rattle.forms.specs.declared.fault.LineFault.{LineFault}
use Rattle.forms.specs.declared.fault.LineFault.TheVariants.{LongLine, Unreadable, TooLarge, Key}
use Rattle.forms.specs.Shapes.{Shape, pair, drop, find, lig, unlig, seek, Written}

-- all numbers are in their ranges
abbrev pub InRange : Shape → Type 0
InRange (pair a b z) = Glyph a × Glyph b × FitsValue z
InRange (drop a b) = Glyph a × Glyph b
InRange (find a b) = Glyph a × Glyph b
InRange (lig gs g) = Every Glyph gs × Glyph g
InRange (unlig gs) = Every Glyph gs
InRange (seek gs) = Every Glyph gs

-- the glyphs are too few or too many for a sequence
abbrev pub NoSequence : Shape → Type 0
NoSequence (pair a b z) = ⊥
NoSequence (drop a b) = ⊥
NoSequence (find a b) = ⊥
NoSequence (lig gs g) = two_to_four (length gs) ≡ false
NoSequence (unlig gs) = two_to_four (length gs) ≡ false
NoSequence (seek gs) = two_to_four (length gs) ≡ false

-- what a shape asks, and of which book
abbrev pub Asks : Shape → Command → Type 0
Asks (pair a b z) c = c ≡ Kern (Put (record { left = a; right = b }) z)
Asks (drop a b) c = c ≡ Kern (Drop (record { left = a; right = b }))
Asks (find a b) c = c ≡ Kern (Find (record { left = a; right = b }))
Asks (lig gs g) c = (s : Sequence) × (glyphs_of s ≡ gs) × (c ≡ Ligature (Put s g))
Asks (unlig gs) c = (s : Sequence) × (glyphs_of s ≡ gs) × (c ≡ Ligature (Drop s))
Asks (seek gs) c = (s : Sequence) × (glyphs_of s ≡ gs) × (c ≡ Ligature (Find s))

-- what a line means: the command of the shape that it is written as, or the first fault that holds
abbrev pub Meant : List ℕ → Result Command LineFault → Type 0
Meant line (Err LongLine) = 80 < length line
Meant line (Err Unreadable) = (length line ≤ 80) × ((s : Shape) → Written line s → ⊥)
Meant line (Err TooLarge) = (length line ≤ 80) × ((s : Shape) × Written line s × (InRange s → ⊥))
Meant line (Err (Key BadSequence)) = (length line ≤ 80) × ((s : Shape) × Written line s × InRange s × NoSequence s)
Meant line (Ok c) = (length line ≤ 80) × ((s : Shape) × Written line s × InRange s × Asks s c)

-- the line means r, and nothing else
abbrev pub OneMeaning : List ℕ → Result Command LineFault → Type 0
OneMeaning line r = Meant line r × ((other : Result Command LineFault) → Meant line other → other ≡ r)
