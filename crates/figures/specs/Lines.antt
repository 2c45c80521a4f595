-- How a text is cut into lines.
use Rattle.std.specs.Prelude.{◌≡◌, ℕ, ◌<◌, cond, ◌⊎◌, List, [], ◌∷◌, ◌++◌, length, Some, None, Option, ◌==◌, ◌≢◌, slice_index}
use Rattle.std.specs.Borrow.{Bor}

-- the line has no byte 10
abbrev pub Clear : List ℕ → Type 0
Clear line = (i : ℕ) → i < length line → slice_index line i ≢ 10

-- line is the first of the text, and rest what follows it; the last line may lack its byte 10
pub record Leads (text line rest : List ℕ) : Type 0 where
  pub clear : Clear line
  pub parts : (text ≡ line ++ (10 ∷ rest)) ⊎ ((text ≡ line) × (rest ≡ []) × (0 < length line))

-- the first line and the rest, or none where the text is empty
abbrev pub Cut : List ℕ → Option (Bor (List ℕ) × Bor (List ℕ)) → Type 0
Cut text None = text ≡ []
Cut text (Some p) = Leads text p.0.now p.1.now

-- the lines of what has one byte more in front, a byte that ends no line
abbrev pub grown : ℕ → List (List ℕ) → List (List ℕ)
grown c [] = (c ∷ []) ∷ []
grown c (l ∷ ls) = (c ∷ l) ∷ ls

-- the lines of a text, in order
unfoldable pub lines_of : List ℕ → List (List ℕ)
lines_of [] = []
lines_of (c ∷ cs) = cond (c == 10) ([] ∷ lines_of cs) (grown c (lines_of cs))
