-- Rows of numbers with single spaces between, and what is kept of one.
use Rattle.std.specs.Prelude.{◌≡◌, ℕ, ◌<◌, List, [], ◌∷◌, ◌++◌, length, Some, None, Option, ◌≢◌}
use Rattle.std.specs.List.{AllByRecursion as Every}
use Rattle.figures.specs.Figures.{Figure, Stops}
use Rattle.figures.specs.Numbers.{Glyph}
use Rattle.kinds.specs.Sequences.{glyphs_of}
use Rattle.forms.specs.declared.row.Row.{Row}
use Rattle.forms.specs.declared.row.Row.TheVariants.{One, Several, Many}

-- bytes are the figures of n and of the numbers after it, in order, with single spaces between
unfoldable pub Series : List ℕ → ℕ → List ℕ → Type 0
Series bytes n [] = Figure bytes n
Series bytes n (m ∷ ms) = (ds : List ℕ) × (rest : List ℕ) × Figure ds n × (bytes ≡ ds ++ (32 ∷ rest)) × Series rest m ms

-- bytes are the figures of the numbers, one or more, in order, with single spaces between
abbrev pub Numbers : List ℕ → List ℕ → Type 0
Numbers bytes [] = ⊥
Numbers bytes (n ∷ ns) = Series bytes n ns

-- a row ends here: neither a digit nor a space and a digit comes next
pub record EndsRow (rest : List ℕ) : Type 0 where
  pub stops : Stops rest
  pub apart : (more : List ℕ) → rest ≡ 32 ∷ more → Stops more

-- the glyph number that n is, or none
abbrev pub GlyphOf : Option ℕ → ℕ → Type 0
GlyphOf None n = 65535 < n
GlyphOf (Some g) n = (g ≡ n) × Glyph n

-- what the row keeps of the numbers: all, where they are four or fewer
abbrev pub Keeps : Row → List ℕ → Type 0
Keeps (One a) ns = ns ≡ a ∷ []
Keeps (Several s) ns = ns ≡ glyphs_of s
Keeps Many ns = 4 < length ns

-- the same, or none where one of the numbers is no glyph number
abbrev pub Held : Option Row → List ℕ → Type 0
Held None ns = Every Glyph ns → ⊥
Held (Some row) ns = Every Glyph ns × Keeps row ns

-- bytes are a row of numbers, as long as it can be, and rest
pub record Rowed (bytes : List ℕ) (row : Option Row) (rest : List ℕ) : Type 0 where
  pub numbers : List ℕ
  pub shown : List ℕ
  pub written : Numbers shown numbers
  pub whole : bytes ≡ shown ++ rest
  pub ends : EndsRow rest
  pub held : Held row numbers

-- bytes begin with no row of numbers
abbrev pub NoRow : List ℕ → Type 0
NoRow bytes = (ns shown rest : List ℕ) → Numbers shown ns → EndsRow rest → bytes ≢ shown ++ rest
