-- The bytes of a key: those of its glyphs in order.
use Rattle.std.specs.Prelude.{ℕ, ◌/◌, ◌%◌, List, [], ◌∷◌}
use Rattle.kinds.specs.declared.kern.Pair.{Pair}
use Rattle.kinds.specs.declared.sequence.Sequence.{Sequence}
use Rattle.kinds.specs.declared.sequence.SequenceBytes.{SequenceBytes}
use Rattle.kinds.specs.declared.sequence.SequenceBytes.TheVariants.{Two, Three, Four}
use Rattle.kinds.specs.Sequences.{glyphs_of}

-- the bytes of some glyphs: two for each, the high one first
abbrev pub glyph_bytes : List ℕ → List ℕ
glyph_bytes [] = []
glyph_bytes (g ∷ gs) = g / 256 ∷ g % 256 ∷ glyph_bytes gs

-- the bytes of a pair: of its left glyph, then of its right one
abbrev pub pair_bytes : Pair → List ℕ
pair_bytes p = glyph_bytes (p.left ∷ p.right ∷ [])

-- the bytes of a sequence: of its glyphs in order
abbrev pub sequence_bytes : Sequence → List ℕ
sequence_bytes s = glyph_bytes (glyphs_of s)

-- the bytes that a value of `SequenceBytes` holds
abbrev pub bytes_held : SequenceBytes → List ℕ
bytes_held (Two bytes) = bytes
bytes_held (Three bytes) = bytes
bytes_held (Four bytes) = bytes
