-- A text of commands, sorted by book.
use Rattle.std.specs.Prelude.{◌≡◌, ℕ, List, [], ◌∷◌, ◌++◌, ℤ, map, All, None, Ok, Err, Result, vec_items}
use Rattle.kinds.specs.declared.kern.Pair.{Pair}
use Rattle.kinds.specs.declared.sequence.Sequence.{Sequence}
use Rattle.history.specs.declared.call.Call.{Call}
use Rattle.history.specs.declared.operation.Operation.{Operation}
use Rattle.forms.specs.Meaning.{Meant}
use Rattle.forms.specs.declared.command.Command.{Command}
use Rattle.forms.specs.declared.command.Command.TheVariants as command
use Rattle.forms.specs.declared.fault.LineFault.{LineFault}
use Rattle.batch.specs.declared.lines.Batch.{Batch}
use Rattle.batch.specs.declared.lines.BookKind.{BookKind}
use Rattle.batch.specs.declared.lines.BookKind.TheVariants.{Kern, Ligature}

-- where a line goes: to a book, or nowhere, by its fault
abbrev pub Destination : Type 0
Destination = Result BookKind LineFault

-- what calls ask
abbrev pub operations : {K V : Type 0} → List (Call K V) → List (Operation K V)
operations calls = map (λ c. c.operation) calls

-- no call of a batch was performed yet
abbrev pub Unanswered : Batch → Type 0
Unanswered b = All (λ c. c.answer ≡ None) (vec_items b.kerns) × All (λ c. c.answer ≡ None) (vec_items b.ligatures)

-- Each line has a destination. One that means an operation of a book goes there, and its operation is the next of that book's; any other goes nowhere, by
-- its fault.
unfoldable pub SortedByBook : List (List ℕ) → List (Operation Pair ℤ) → List (Operation Sequence ℕ) → List Destination → Type 0
SortedByBook [] ks gs ds = (ks ≡ []) × (gs ≡ []) × (ds ≡ [])
SortedByBook (line ∷ lines) ks gs [] = ⊥
SortedByBook (line ∷ lines) ks gs (Ok Kern ∷ ds) = (o : Operation Pair ℤ) × (more : List (Operation Pair ℤ)) × Meant line (Ok (command.Kern o)) × (ks ≡ o ∷ more) × SortedByBook lines more gs ds
SortedByBook (line ∷ lines) ks gs (Ok Ligature ∷ ds) = (o : Operation Sequence ℕ) × (more : List (Operation Sequence ℕ)) × Meant line (Ok (command.Ligature o)) × (gs ≡ o ∷ more) × SortedByBook lines ks more ds
SortedByBook (line ∷ lines) ks gs (Err f ∷ ds) = Meant line (Err f) × SortedByBook lines ks gs ds

-- What a line that means this adds: to one book's operations, and to the destinations.
abbrev pub Appended : Result Command LineFault → List (Operation Pair ℤ) → List (Operation Sequence ℕ) → List Destination → List (Operation Pair ℤ) → List (Operation Sequence ℕ) → List Destination → Type 0
Appended (Ok (command.Kern o)) ks gs ds ks' gs' ds' = (ks' ≡ ks ++ o ∷ []) × (gs' ≡ gs) × (ds' ≡ ds ++ Ok Kern ∷ [])
Appended (Ok (command.Ligature o)) ks gs ds ks' gs' ds' = (ks' ≡ ks) × (gs' ≡ gs ++ o ∷ []) × (ds' ≡ ds ++ Ok Ligature ∷ [])
Appended (Err f) ks gs ds ks' gs' ds' = (ks' ≡ ks) × (gs' ≡ gs) × (ds' ≡ ds ++ Err f ∷ [])

-- one line more
abbrev pub Noted : List ℕ → List (Operation Pair ℤ) → List (Operation Sequence ℕ) → List Destination → List (Operation Pair ℤ) → List (Operation Sequence ℕ) → List Destination → Type 0
Noted line ks gs ds ks' gs' ds' = (r : Result Command LineFault) × Meant line r × Appended r ks gs ds ks' gs' ds'
