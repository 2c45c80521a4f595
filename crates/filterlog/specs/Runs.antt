-- What commands do to a filter, and what is printed of them.
use Rattle.std.specs.Prelude.{◌≡◌, ℕ, ◌+◌, Bool, List, [], ◌∷◌, ◌++◌, length, Some, None, Ok, Err, Option, Result, codes}
use Rattle.std.specs.Fmt.{decimal}
use Rattle.std.specs.Io.KnownBytes.{Appends}
use Rattle.layout.specs.Format.{filter_words}
use Rattle.filter.specs.Slots.{slot_shown}
use Rattle.filter.specs.Filters.{SameFilter, fingerprints, Added, Taken, SaysWhether}
use Rattle.filter.specs.declared.fault.FilterFault.{FilterFault}
use Rattle.filter.specs.declared.filter.Filter.{Filter}
use Rattle.console.specs.Texts.{blocks_text}
use Rattle.console.specs.Sending.{AppendsBeginning}
use Rattle.console.specs.declared.fault.Fault.{Fault}
use Rattle.console.specs.declared.fault.Fault.TheVariants.{Memory, Stream, Arguments, Filter as Refuses}
use Rattle.filterlog.specs.Answers.{line_text, entry_text, list_text, edit_text, has_text}
use Rattle.filterlog.specs.Commands.{Said}
use Rattle.filterlog.specs.declared.commands.Command.{Command}
use Rattle.filterlog.specs.declared.commands.Command.TheVariants.{Add, Take, Ask}
use Rattle.filterlog.specs.declared.commands.Question.{Question}
use Rattle.filterlog.specs.declared.commands.Question.TheVariants.{Has, Held, Slot, Words, List as Listed}

-- what is printed in answer to a question about filter f
abbrev pub QuestionAnswered : Filter → Question → List ℕ → Type 0
QuestionAnswered f (Has n) text =
    (r : Result Bool FilterFault) × SaysWhether f n r × (text ≡ has_text r)
QuestionAnswered f Held text = text ≡ line_text (decimal (length (fingerprints f)))
QuestionAnswered f (Slot s) text = text ≡ entry_text (slot_shown f.plan.r (fingerprints f) s.0)
QuestionAnswered f Words text = text ≡ blocks_text (f.plan.r + 3) (filter_words f.plan.r f.blocks (fingerprints f))
QuestionAnswered f Listed text = text ≡ list_text (fingerprints f)

-- What a command makes of filter f, which is g, and what is printed of it. Questions leave the filter as it is, and so does a line that is no command.
abbrev pub CommandRan : Option Command → Filter → Filter → List ℕ → Type 0
CommandRan (Some (Add n)) f g text = SameFilter f g × ((r : Result (Unit {0}) FilterFault) × Added f g n r × (text ≡ edit_text r))
CommandRan (Some (Take n)) f g text = SameFilter f g × ((r : Result (Unit {0}) FilterFault) × Taken f g n r × (text ≡ edit_text r))
CommandRan (Some (Ask q)) f g text = (g ≡ f) × QuestionAnswered f q text
CommandRan None f g text = (g ≡ f) × (text ≡ line_text (codes "unreadable"))

-- the same of a line of the log
abbrev pub LineRan : List ℕ → Filter → Filter → List ℕ → Type 0
LineRan line f g text = (c : Option Command) × Said line c × CommandRan c f g text

-- What is printed in answer to a question about filter f, where o and p are what was printed before and after; or why it is not: memory lacks, and nothing of the
-- answer is printed, or a stream fails, and a beginning of it is.
abbrev pub QuestionDone : Filter → Question → Option (List ℕ) → Option (List ℕ) → Result (Unit {0}) Fault → Type 0
QuestionDone f q o p (Ok done) = (text : List ℕ) × QuestionAnswered f q text × Appends o p text
QuestionDone f q o p (Err Memory) = p ≡ o
QuestionDone f q o p (Err Stream) =
    (text : List ℕ) × QuestionAnswered f q text × AppendsBeginning o p text
QuestionDone f q o p (Err Arguments) = ⊥
QuestionDone f q o p (Err (Refuses e)) = ⊥

-- What a line of the log makes of filter f, which is g, and what is printed of it, where o and p are what was printed before and after; or why the program ends
-- there: memory lacks for the answer to a question, with all as it was, or a stream fails, and what is printed of the line is a beginning of its answer.
-- A refusal is printed, and ends nothing.
abbrev pub LinePrinted : List ℕ → Filter → Filter → Option (List ℕ) → Option (List ℕ) → Result (Unit {0}) Fault → Type 0
LinePrinted line f g o p (Ok done) = (text : List ℕ) × LineRan line f g text × Appends o p text
LinePrinted line f g o p (Err Memory) =
    (q : Question) × Said line (Some (Ask q)) × (g ≡ f) × (p ≡ o)
LinePrinted line f g o p (Err Stream) =
    (text : List ℕ) × LineRan line f g text × AppendsBeginning o p text
LinePrinted line f g o p (Err Arguments) = ⊥
LinePrinted line f g o p (Err (Refuses e)) = ⊥

-- What the lines of a log make of filter f, each in turn, and what is printed of them.
unfoldable pub LinesRan : List (List ℕ) → Filter → Filter → List ℕ → Type 0
LinesRan [] f g text = (g ≡ f) × (text ≡ [])
LinesRan (line ∷ lines) f g text = (h : Filter) × (first : List ℕ) × (more : List ℕ) × LineRan line f h first × LinesRan lines h g more × (text ≡ first ++ more)
