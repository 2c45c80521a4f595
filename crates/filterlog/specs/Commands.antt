-- What a line of a log asks for.
use Rattle.std.specs.Prelude.{◌≡◌, ℕ, ◌^◌, ◌<◌, List, [], ◌∷◌, ◌++◌, Some, None, Option}
use Rattle.figures.specs.Figures.{Natural}
use Rattle.filterlog.specs.declared.commands.Command.{Command}
use Rattle.filterlog.specs.declared.commands.Command.TheVariants.{Add, Take, Ask}
use Rattle.filterlog.specs.declared.commands.Question.TheVariants.{Has, Held, Slot, Words, List as Listed}

-- the line is the word, a space and bytes that write n, a number below 2 ^ 64
abbrev pub WordAndNumber : List ℕ → List ℕ → ℕ → Type 0
WordAndNumber word line n = (ds : List ℕ) × (line ≡ word ++ (32 ∷ ds)) × Natural ds (Some n)

-- how each command is written
abbrev pub Says : List ℕ → Command → Type 0
Says line (Add n) = WordAndNumber (97 ∷ 100 ∷ 100 ∷ []) line n
Says line (Take n) = WordAndNumber (116 ∷ 97 ∷ 107 ∷ 101 ∷ []) line n
Says line (Ask (Has n)) = WordAndNumber (104 ∷ 97 ∷ 115 ∷ []) line n
Says line (Ask Held) = line ≡ 104 ∷ 101 ∷ 108 ∷ 100 ∷ []
Says line (Ask (Slot s)) = WordAndNumber (115 ∷ 108 ∷ 111 ∷ 116 ∷ []) line s.0 × (s.0 < 2 ^ 32)
Says line (Ask Words) = line ≡ 119 ∷ 111 ∷ 114 ∷ 100 ∷ 115 ∷ []
Says line (Ask Listed) = line ≡ 108 ∷ 105 ∷ 115 ∷ 116 ∷ []

-- the command that the line is, or none
abbrev pub Said : List ℕ → Option Command → Type 0
Said line (Some c) = Says line c
Said line None = (c : Command) → Says line c → ⊥
