-- Which lines are refused.
use Rattle.std.specs.Prelude.{◌≡◌, ℕ, ◌+◌, List, [], ◌∷◌, ◌++◌, ℤ, Some, None, Ok, Err, Option, codes, decimal}
use Rattle.kinds.specs.declared.kern.Pair.{Pair}
use Rattle.kinds.specs.declared.sequence.Sequence.{Sequence}
use Rattle.history.specs.Rules.{Answer}
use Rattle.history.specs.declared.call.Call.{Call}
use Rattle.answers.specs.Faults.{refusal_number}
use Rattle.answers.specs.declared.fault.Refusal.{Refusal}
use Rattle.answers.specs.declared.fault.Refusal.TheVariants.{Line, Book}
use Rattle.batch.specs.Batches.{Destination}
use Rattle.batch.specs.declared.lines.BookKind.TheVariants.{Kern, Ligature}
use Rattle.batch.specs.declared.lines.RefusedLine.{RefusedLine}

-- the refusal that an answer is, if there is one and it is a refusal
abbrev pub refusal_for : {V : Type 0} → Option (Answer V) → Option Refusal
refusal_for None = None
refusal_for (Some (Ok told)) = None
refusal_for (Some (Err f)) = Some (Book f)

-- the refusal of the next call, if it was refused, and the calls after it
abbrev pub NextRefusal : {K V : Type 0} → List (Call K V) → Option Refusal → List (Call K V)
    → Type 0
NextRefusal [] refusal more = (refusal ≡ None) × (more ≡ [])
NextRefusal (c ∷ calls) refusal more = (refusal ≡ refusal_for c.answer) × (more ≡ calls)

-- line n in front of the refused ones, if it is refused
abbrev pub noted : ℕ → Option Refusal → List RefusedLine → List RefusedLine
noted n None more = more
noted n (Some f) more = record { line = n; fault = f } ∷ more

-- The refused lines, counted from n on, in order: a line that went nowhere by its own fault, one that went to a book by the next call of that book,
-- if that was refused.
unfoldable pub refused_from : ℕ → List Destination → List (Call Pair ℤ) → List (Call Sequence ℕ) → List RefusedLine
refused_from n [] ks gs = []
refused_from n (Err f ∷ ds) ks gs = record { line = n; fault = Line f } ∷ refused_from (n + 1) ds ks gs
refused_from n (Ok Kern ∷ ds) [] gs = refused_from (n + 1) ds [] gs
refused_from n (Ok Kern ∷ ds) (c ∷ ks) gs = noted n (refusal_for c.answer) (refused_from (n + 1) ds ks gs)
refused_from n (Ok Ligature ∷ ds) ks [] = refused_from (n + 1) ds ks []
refused_from n (Ok Ligature ∷ ds) ks (c ∷ gs) = noted n (refusal_for c.answer) (refused_from (n + 1) ds ks gs)

-- A line with this destination is refused so or not, and leaves these calls: so it is in front of any lines, whatever its own number.
abbrev pub RefusalTold : Destination → List (Call Pair ℤ) → List (Call Sequence ℕ) → Option Refusal
    → List (Call Pair ℤ) → List (Call Sequence ℕ) → Type 0
RefusalTold d ks gs refusal ks' gs' = (n : ℕ) (ds : List Destination)
    → refused_from n (d ∷ ds) ks gs ≡ noted n refusal (refused_from (n + 1) ds ks' gs')

-- what is written of a refused line: its number and that of its refusal
abbrev pub refused_line_text : RefusedLine → List ℕ
refused_line_text l = codes "line " ++ (decimal l.line ++ (codes " fault " ++ decimal (refusal_number l.fault)))
