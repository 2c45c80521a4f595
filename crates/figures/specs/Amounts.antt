-- What the glyph numbers and the value of a line are.
use Rattle.std.specs.Prelude.{◌≡◌, ℕ, suc, ◌<◌, ◌⊎◌, List, ◌∷◌, ◌++◌, ℤ, pos, negsuc, Ok, Err, Result}
use Rattle.std.specs.Borrow.{Bor}
use Rattle.figures.specs.declared.FigureFault.{FigureFault}
use Rattle.figures.specs.declared.FigureFault.TheVariants.{Unreadable, TooLarge}
use Rattle.figures.specs.Figures.{Figure, Stops, NoFigure}
use Rattle.figures.specs.Numbers.{Glyph, FitsValue}

-- bytes begin with the figure of n, and rest follows it
pub record Begins (bytes : List ℕ) (n : ℕ) (rest : List ℕ) : Type 0 where
  pub shown : List ℕ
  pub figure : Figure shown n
  pub whole : bytes ≡ shown ++ rest
  pub stops : Stops rest

-- what is read of bytes that are to begin with a glyph number
abbrev pub Glyphed : List ℕ → Result (ℕ × Bor (List ℕ)) FigureFault → Type 0
Glyphed bytes (Ok p) = Glyph p.0 × Begins bytes p.0 p.1.now
Glyphed bytes (Err TooLarge) = (n : ℕ) × (rest : List ℕ) × (65535 < n) × Begins bytes n rest
Glyphed bytes (Err Unreadable) = NoFigure bytes

-- how a value is written: a figure, or a minus before a figure other than 0
abbrev pub Amount : List ℕ → ℤ → Type 0
Amount bytes (pos n) = Figure bytes n
Amount bytes (negsuc n) = (ds : List ℕ) × (bytes ≡ 45 ∷ ds) × Figure ds (suc n)

-- what is read of bytes that are to be a value
abbrev pub Weighed : List ℕ → Result ℤ FigureFault → Type 0
Weighed bytes (Ok z) = FitsValue z × Amount bytes z
Weighed bytes (Err TooLarge) = (z : ℤ) × (FitsValue z → ⊥) × Amount bytes z
Weighed bytes (Err Unreadable) = (z : ℤ) → Amount bytes z → ⊥

-- two figures and a value of any size, parted by single spaces
pub record PairLine (bytes : List ℕ) (a b : ℕ) (z : ℤ) : Type 0 where
  pub l : List ℕ
  pub r : List ℕ
  pub v : List ℕ
  pub whole : bytes ≡ l ++ (32 ∷ (r ++ (32 ∷ v)))
  pub left : Figure l a
  pub right : Figure r b
  pub value : Amount v z

-- what is read of bytes that are to be two glyph numbers and a value
abbrev pub Paired : List ℕ → Result (ℕ × ℕ × ℤ) FigureFault → Type 0
Paired bytes (Ok p) = Glyph p.0 × Glyph p.1 × FitsValue p.2 × PairLine bytes p.0 p.1 p.2
Paired bytes (Err TooLarge) = (a : ℕ) × (b : ℕ) × (z : ℤ) × PairLine bytes a b z × ((65535 < a) ⊎ ((65535 < b) ⊎ (FitsValue z → ⊥)))
Paired bytes (Err Unreadable) = (a b : ℕ) (z : ℤ) → PairLine bytes a b z → ⊥
