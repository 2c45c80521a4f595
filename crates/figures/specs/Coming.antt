-- The lines that an iterator over a text still gives.
use Rattle.std.specs.Prelude.{ℕ, List}
use Rattle.figures.specs.Lines.{lines_of}
use Rattle.figures.specs.declared.lines.Lines.{Lines}

-- those of what is left of the text
abbrev pub lines_left : Lines → List (List ℕ)
lines_left s = lines_of s.left.now
