-- Which numbers a line may have.
use Rattle.std.specs.Prelude.{◌≡◌, ℕ, suc, ◌<◌, ◌≤◌, ℤ, pos, negsuc}
use Rattle.figures.specs.declared.numbers.Parsed.{Parsed}
use Rattle.figures.specs.declared.numbers.Parsed.TheVariants as parsed
use Rattle.figures.specs.declared.numbers.Number.{Number}
use Rattle.figures.specs.declared.numbers.Number.TheVariants.{Glyph as LawfulGlyph, Value as LawfulValue, TooLarge}

-- a glyph number
abbrev pub Glyph : ℕ → Type 0
Glyph n = n ≤ 65535

-- from -32,768 to 32,767
abbrev pub FitsValue : ℤ → Type 0
FitsValue (pos n) = n ≤ 32767
FitsValue (negsuc n) = suc n ≤ 32768

-- what a number that was read is: lawful as what it is to be, or too large
abbrev pub Classified : Parsed → Number → Type 0
Classified (parsed.Glyph n) (LawfulGlyph g) = (g ≡ n) × Glyph n
Classified (parsed.Glyph n) (LawfulValue v) = ⊥
Classified (parsed.Glyph n) TooLarge = 65535 < n
Classified (parsed.Value z) (LawfulValue v) = (v ≡ z) × FitsValue z
Classified (parsed.Value z) (LawfulGlyph g) = ⊥
Classified (parsed.Value z) TooLarge = FitsValue z → ⊥
