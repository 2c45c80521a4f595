-- How a number is written.
use Rattle.std.specs.Prelude.{◌≡◌, ℕ, ◌^◌, ◌<◌, ◌≤◌, min, List, [], ◌∷◌, ◌++◌, length, Some, None, Option, ◌≢◌, slice_index_or}
use Rattle.std.specs.Str.Parse.{AllDigits, digits_value}

-- ds is how n is written: one digit or more, and no zero in front of another digit
pub record Figure (ds : List ℕ) (n : ℕ) : Type 0 where
  pub some : 0 < length ds
  pub digits : AllDigits 10 ds
  pub lead : slice_index_or ds 0 0 ≡ 48 → length ds ≡ 1
  pub number : digits_value 10 ds ≡ n

-- no digit comes first
abbrev pub Stops : List ℕ → Type 0
Stops [] = Unit {0}
Stops (c ∷ cs) = 48 ≤ c → c ≤ 57 → ⊥

-- bytes begin with a figure, of which v is the number or, past 65536, that bound; rest follows it
pub record Read (bytes : List ℕ) (v : ℕ) (rest : List ℕ) : Type 0 where
  pub shown : List ℕ
  pub named : ℕ
  pub figure : Figure shown named
  pub whole : bytes ≡ shown ++ rest
  pub stops : Stops rest
  pub held : v ≡ min named 65536

-- bytes begin with no figure that stops
abbrev pub NoFigure : List ℕ → Type 0
NoFigure bytes = (ds : List ℕ) (n : ℕ) (rest : List ℕ) → Figure ds n → Stops rest → bytes ≢ ds ++ rest

-- bytes are a figure and nothing else, and v is its number or, past 65536, that bound
abbrev pub Whole : List ℕ → ℕ → Type 0
Whole bytes v = (n : ℕ) × Figure bytes n × (v ≡ min n 65536)

-- bytes are no figure
abbrev pub NoWhole : List ℕ → Type 0
NoWhole bytes = (n : ℕ) → Figure bytes n → ⊥

-- bytes are a figure, a space and rest, and v is its number or, past 65536, that bound
abbrev pub Spaced : List ℕ → ℕ → List ℕ → Type 0
Spaced bytes v rest = (ds : List ℕ) × (n : ℕ) × Figure ds n × (bytes ≡ ds ++ (32 ∷ rest)) × (v ≡ min n 65536)

-- bytes are not a figure, a space and more
abbrev pub NoSpaced : List ℕ → Type 0
NoSpaced bytes = (ds : List ℕ) (n : ℕ) (rest : List ℕ) → Figure ds n → bytes ≢ ds ++ (32 ∷ rest)

-- the number that bytes write, or none where they are no figure of a number below 2 ^ 64
abbrev pub Natural : List ℕ → Option ℕ → Type 0
Natural bytes (Some n) = Figure bytes n × (n < 2 ^ 64)
Natural bytes None = (n : ℕ) → n < 2 ^ 64 → Figure bytes n → ⊥
