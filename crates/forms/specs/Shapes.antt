-- The six forms of a line, with numbers of any size, and how each is written.
use Rattle.std.specs.Prelude.{◌≡◌, ℕ, List, ◌++◌, ℤ, codes}
use Rattle.figures.specs.Figures.{Figure}
use Rattle.figures.specs.Amounts.{PairLine}
use Rattle.forms.specs.Rows.{Numbers}

-- what a line says
pub data Shape : Type 0 where
  -- `pair L R V`
  pair : ℕ → ℕ → ℤ → Shape
  -- `drop L R`
  drop : ℕ → ℕ → Shape
  -- `find L R`
  find : ℕ → ℕ → Shape
  -- `lig G .. as G`
  lig : List ℕ → ℕ → Shape
  -- `unlig G ..`
  unlig : List ℕ → Shape
  -- `seek G ..`
  seek : List ℕ → Shape

-- the line is the word and what is as P says
abbrev pub After : List ℕ → List ℕ → (List ℕ → Type 0) → Type 0
After word line P = (rest : List ℕ) × (line ≡ word ++ rest) × P rest

-- two figures and a space between
abbrev pub Couple : ℕ → ℕ → List ℕ → Type 0
Couple a b bytes = (l : List ℕ) × (r : List ℕ) × (bytes ≡ l ++ (codes " " ++ r)) × Figure l a × Figure r b

-- a row of figures, the word `as` and a figure
abbrev pub Joined : List ℕ → ℕ → List ℕ → Type 0
Joined gs g bytes = (row : List ℕ) × (last : List ℕ) × (bytes ≡ row ++ (codes " as " ++ last)) × Numbers row gs × Figure last g

-- how a shape is written
abbrev pub Written : List ℕ → Shape → Type 0
Written line (pair a b z) = After (codes "pair ") line (λ rest. PairLine rest a b z)
Written line (drop a b) = After (codes "drop ") line (Couple a b)
Written line (find a b) = After (codes "find ") line (Couple a b)
Written line (lig gs g) = After (codes "lig ") line (Joined gs g)
Written line (unlig gs) = After (codes "unlig ") line (λ rest. Numbers rest gs)
Written line (seek gs) = After (codes "seek ") line (λ rest. Numbers rest gs)
