-- What is read of the fields of a form.
use Rattle.std.specs.Prelude.{◌≡◌, ℕ, false, List, length, Ok, Err, Result}
use Rattle.std.specs.List.{AllByRecursion as Every}
use Rattle.kinds.specs.declared.kern.Pair.{Pair}
use Rattle.kinds.specs.declared.sequence.Sequence.{Sequence}
use Rattle.kinds.specs.declared.ligature.KeyFault.TheVariants.{BadSequence}
use Rattle.kinds.specs.Sequences.{glyphs_of, two_to_four}
use Rattle.figures.specs.Numbers.{Glyph}
use Rattle.forms.specs.declared.fault.LineFault.{LineFault}
use Rattle.forms.specs.declared.fault.LineFault.TheVariants.{LongLine, Unreadable, TooLarge, Key}
use Rattle.forms.specs.Rows.{Numbers}
use Rattle.forms.specs.Shapes.{Couple, Joined}

-- of bytes that are to be two glyph numbers
abbrev pub Coupled : List ℕ → Result Pair LineFault → Type 0
Coupled bytes (Ok p) = Couple p.left p.right bytes × Glyph p.left × Glyph p.right
Coupled bytes (Err Unreadable) = (a b : ℕ) → Couple a b bytes → ⊥
Coupled bytes (Err TooLarge) = (a : ℕ) × (b : ℕ) × Couple a b bytes × (Glyph a × Glyph b → ⊥)
Coupled bytes (Err LongLine) = ⊥
Coupled bytes (Err (Key f)) = ⊥

-- of bytes that are to be a sequence
abbrev pub Sequenced : List ℕ → Result Sequence LineFault → Type 0
Sequenced bytes (Ok s) = Numbers bytes (glyphs_of s) × Every Glyph (glyphs_of s)
Sequenced bytes (Err Unreadable) = (gs : List ℕ) → Numbers bytes gs → ⊥
Sequenced bytes (Err TooLarge) = (gs : List ℕ) × Numbers bytes gs × (Every Glyph gs → ⊥)
Sequenced bytes (Err (Key BadSequence)) = (gs : List ℕ) × Numbers bytes gs × Every Glyph gs × (two_to_four (length gs) ≡ false)
Sequenced bytes (Err LongLine) = ⊥

-- of bytes that are to be a sequence, the word `as` and a glyph number
abbrev pub Ligated : List ℕ → Result (Sequence × ℕ) LineFault → Type 0
Ligated bytes (Ok p) = Joined (glyphs_of p.0) p.1 bytes × Every Glyph (glyphs_of p.0) × Glyph p.1
Ligated bytes (Err Unreadable) = (gs : List ℕ) (g : ℕ) → Joined gs g bytes → ⊥
Ligated bytes (Err TooLarge) = (gs : List ℕ) × (g : ℕ) × Joined gs g bytes × (Every Glyph gs × Glyph g → ⊥)
Ligated bytes (Err (Key BadSequence)) = (gs : List ℕ) × (g : ℕ) × Joined gs g bytes × Every Glyph gs × Glyph g × (two_to_four (length gs) ≡ false)
Ligated bytes (Err LongLine) = ⊥
