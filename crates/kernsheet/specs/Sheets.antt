-- What a sheet is answered by two books that begin empty. Nothing of the books stands here but what was asked of them and what they answered.
use Rattle.std.specs.Prelude.{◌≡◌, ℕ, ◌+◌, ◌<◌, ◌≤◌, ◌⊎◌, List, [], ◌∷◌, ◌++◌, length, ℤ, Ok, Err, Option, Result, IfSome}
use Rattle.std.specs.Io.KnownBytes.{Appends}
use Rattle.kinds.specs.Bytes.{pair_bytes, sequence_bytes}
use Rattle.kinds.specs.Hashes.{fibonacci, fnv}
use Rattle.kinds.specs.declared.kern.Pair.{Pair}
use Rattle.kinds.specs.declared.sequence.Sequence.{Sequence}
use Rattle.filter.specs.declared.plan.Plan.{Plan}
use Rattle.history.specs.Rules.{Terms, Answer}
use Rattle.history.specs.Beginnings.{nothing, list_terms}
use Rattle.history.specs.History.{History, AnsweredByRules}
use Rattle.figures.specs.Lines.{lines_of}
use Rattle.forms.specs.declared.command.Command.{Command}
use Rattle.forms.specs.declared.command.Command.TheVariants as command
use Rattle.forms.specs.declared.fault.LineFault.{LineFault}
use Rattle.forms.specs.Meaning.{Meant}
use Rattle.answers.specs.declared.done.Done.{Done}
use Rattle.answers.specs.declared.done.Done.TheVariants.{Kern, Ligature}
use Rattle.answers.specs.declared.fault.Refusal.{Refusal}
use Rattle.answers.specs.declared.fault.Refusal.TheVariants.{Line, LongSheet}
use Rattle.answers.specs.Texts.{answer_line}
use Rattle.sheet.specs.Doing.{reply_of}
use Rattle.console.specs.declared.fault.Fault.{Fault}
use Rattle.console.specs.declared.fault.Fault.TheVariants.{Memory, Stream}
use Rattle.console.specs.Sending.{AppendsBeginning}

-- What becomes of a line that means this, where k and l are what was asked of the kerning book and of the ligature book before it, with their answers, and k'
-- and l' the same after it: one book gives the answer that its rules give for the keys current then. A line that is refused before asks neither.
abbrev pub CommandAnswered : Terms Pair → Terms Sequence → History Pair ℤ → History Pair ℤ → History Sequence ℕ → History Sequence ℕ → Result Command LineFault → Result Done Refusal → Type 0
CommandAnswered t u k k' l l' (Ok (command.Kern o)) reply =
    (a : Answer ℤ) × AnsweredByRules t nothing k o a × (k' ≡ k ++ (o, a) ∷ []) × (l' ≡ l) × (reply ≡ reply_of Kern a)
CommandAnswered t u k k' l l' (Ok (command.Ligature o)) reply =
    (a : Answer ℕ) × AnsweredByRules u nothing l o a × (l' ≡ l ++ (o, a) ∷ []) × (k' ≡ k) × (reply ≡ reply_of Ligature a)
CommandAnswered t u k k' l l' (Err e) reply = (k' ≡ k) × (l' ≡ l) × (reply ≡ Err (Line e))

-- what is replied to a line
abbrev pub LineAnswered : Terms Pair → Terms Sequence → History Pair ℤ → History Pair ℤ → History Sequence ℕ → History Sequence ℕ → List ℕ → Result Done Refusal → Type 0
LineAnswered t u k k' l l' line reply = (r : Result Command LineFault) × Meant line r × CommandAnswered t u k k' l l' r reply

-- The text that answers lines, of which the first has that number: what is replied to each under its number, in turn.
unfoldable pub LinesAnswered : Terms Pair → Terms Sequence → History Pair ℤ → History Sequence ℕ → ℕ → List (List ℕ) → List ℕ → Type 0
LinesAnswered t u k l number [] text = text ≡ []
LinesAnswered t u k l number (line ∷ lines) text =
    (k' : History Pair ℤ) × (l' : History Sequence ℕ) × (reply : Result Done Refusal) × (rest : List ℕ)
    × LineAnswered t u k k' l l' line reply × LinesAnswered t u k' l' (number + 1) lines rest × (text ≡ answer_line number reply ++ rest)

-- The text that answers all lines of a sheet, numbered from 1, by the two books of kernsheet, of which nothing was asked before.
pub record LinesOfSheet (sheet text : List ℕ) : Type 0 where
  pub kern : Plan
  pub ligature : Plan
  pub kern_bits : (kern.q ≡ 8) × (kern.r ≡ 24)
  pub ligature_bits : (ligature.q ≡ 6) × (ligature.r ≡ 16)
  pub lines : LinesAnswered (list_terms pair_bytes (λ k. fibonacci k.left k.right) kern 5 256) (list_terms sequence_bytes (λ k. fnv (sequence_bytes k)) ligature 2 64) [] [] 1 (lines_of sheet) text

-- the text that answers a sheet: that of its lines, or, where it is too long, that of this refusal
abbrev pub SheetAnswered : List ℕ → List ℕ → Type 0
SheetAnswered sheet text =
    ((length sheet ≤ 65535) × LinesOfSheet sheet text)
    ⊎ ((65535 < length sheet) × (text ≡ answer_line 0 (Err LongSheet)))

-- the text answers the sheet, and no other text does
abbrev pub OneAnswer : List ℕ → List ℕ → Type 0
OneAnswer sheet text = SheetAnswered sheet text × ((other : List ℕ) → SheetAnswered sheet other → other ≡ text)

-- the text answers the sheet that an input had left, where that is known
pub record InputAnswered (left : Option (List ℕ)) (text : List ℕ) : Type 0 where
  pub sheet : List ℕ
  pub whole : IfSome left (λ bytes. sheet ≡ bytes)
  pub answer : OneAnswer sheet text

-- What is written for an input that had this left, where the writer was `old` and is `new`: the text that answers it. Where memory lacks, nothing is written.
-- Where a stream fails, nothing or a beginning of that text is.
abbrev pub Replied : {W : Type 0} → (W → Option (List ℕ)) → Option (List ℕ) → W → W → Result (Unit {0}) Fault → Type 0
Replied contents left old new (Ok done) =
    (text : List ℕ) × InputAnswered left text × Appends (contents old) (contents new) text
Replied contents left old new (Err Memory) = new ≡ old
Replied contents left old new (Err Stream) =
    (new ≡ old) ⊎ ((text : List ℕ) × InputAnswered left text × AppendsBeginning (contents old) (contents new) text)
Replied contents left old new (Err fault) = ⊥
