-- What a line of a sheet does. Below, k and l are the kerning book and the ligature book before it, k' and l' after it.
use Rattle.std.specs.Prelude.{◌≡◌, ℕ, ◌<◌, ◌≤◌, List, ◌++◌, length, drop, ℤ, Ok, Err, Result}
use Rattle.std.specs.Borrow.{GName}
use Rattle.kinds.specs.declared.kern.Pair.{Pair}
use Rattle.kinds.specs.declared.sequence.Sequence.{Sequence}
use Rattle.kinds.specs.Bytes.{pair_bytes, sequence_bytes}
use Rattle.tables.specs.Meaning.{Meaning}
use Rattle.history.specs.declared.answer.Told.{Told}
use Rattle.history.specs.declared.operation.Operation.{Operation}
use Rattle.history.specs.Rules.{Answer}
use Rattle.book.specs.declared.book.Book.{Book as LentBook}
use Rattle.book.specs.Reached.{State, state_of, Extends}
use Rattle.book.specs.Standings.{Standing, standing}
use Rattle.replay.specs.Replays.{Performs, IsReadOnly}
use Rattle.forms.specs.declared.command.Command.{Command}
use Rattle.forms.specs.declared.command.Command.TheVariants as command
use Rattle.forms.specs.declared.fault.LineFault.{LineFault}
use Rattle.forms.specs.Meaning.{Meant}
use Rattle.answers.specs.declared.done.Done.{Done}
use Rattle.answers.specs.declared.done.Done.TheVariants.{Kern, Ligature}
use Rattle.answers.specs.declared.fault.BufferFault.TheVariants.{ShortBuffer}
use Rattle.answers.specs.declared.fault.Refusal.{Refusal}
use Rattle.answers.specs.declared.fault.Refusal.TheVariants.{Buffer, Line, Book}
use Rattle.answers.specs.declared.fault.SheetFault.{SheetFault}
use Rattle.answers.specs.Texts.{answer_line}

-- a book as it stands, and its table itself: tables that mean the same need not be the same
pub record WholeBook (K V B X : Type 0) : Type 0 where
  pub stands : Standing K V B
  pub table : X

-- a lent book, by what its table and its fingerprint say of themselves
abbrev pub whole_book : {X P K V B : Type 0} → (X → Meaning K V) → (X → GName) → (X → B) → (P → K → ℕ) → LentBook X P → WholeBook K V B X
whole_book meaning lender beyond number b = record { stands = standing meaning lender beyond number b; table = b.table.now }

-- what the law of a book sees of it
abbrev pub state_at : {K V B X : Type 0} → WholeBook K V B X → State K V
state_at w = state_of w.stands.filter w.stands.table w.stands.number

-- what an operation with this answer makes of the book that a line names
pub record Operates {K V B X : Type 0} (bytes : K → List ℕ) (before after : WholeBook K V B X) (o : Operation K V) (a : Answer V) : Type 0 where
  pub done : Performs bytes before.stands after.stands o a
  -- the law of the book goes on by it
  pub law : Extends bytes (state_at before) (state_at after) (o, a)
  -- only a put or a drop that is done writes into the table
  pub unwritten : IsReadOnly o a → after.table ≡ before.table

-- what is replied for a book that answered this, where `done` names the book
abbrev pub reply_of : {V : Type 0} → (Told V → Done) → Answer V → Result Done Refusal
reply_of done (Ok t) = Ok (done t)
reply_of done (Err e) = Err (Book e)

-- What becomes of a line that means this: one book is asked, and nothing is written into the other, nor into its table; a line that is refused before leaves
-- both so.
abbrev pub CommandDone : {B C X Y : Type 0} → WholeBook Pair ℤ B X → WholeBook Pair ℤ B X → WholeBook Sequence ℕ C Y → WholeBook Sequence ℕ C Y
    → Result Command LineFault → Result Done Refusal → Type 0
CommandDone k k' l l' (Ok (command.Kern o)) reply =
    (a : Answer ℤ) × Operates pair_bytes k k' o a × (l' ≡ l) × (reply ≡ reply_of Kern a)
CommandDone k k' l l' (Ok (command.Ligature o)) reply =
    (a : Answer ℕ) × Operates sequence_bytes l l' o a × (k' ≡ k) × (reply ≡ reply_of Ligature a)
CommandDone k k' l l' (Err e) reply = (k' ≡ k) × (l' ≡ l) × (reply ≡ Err (Line e))

-- what a line does, and what is replied
abbrev pub LineDone : {B C X Y : Type 0} → WholeBook Pair ℤ B X → WholeBook Pair ℤ B X → WholeBook Sequence ℕ C Y → WholeBook Sequence ℕ C Y
    → List ℕ → Result Done Refusal → Type 0
LineDone k k' l l' line reply = (r : Result Command LineFault) × Meant line r × CommandDone k k' l l' r reply

-- The same with the reply written to the front of a buffer that was `before` and is `after`, under a line number. A short buffer is refused first, and all
-- stays as it is.
abbrev pub LineWritten : {B C X Y : Type 0} → WholeBook Pair ℤ B X → WholeBook Pair ℤ B X → WholeBook Sequence ℕ C Y → WholeBook Sequence ℕ C Y
    → ℕ → List ℕ → List ℕ → List ℕ → Result ℕ SheetFault → Type 0
LineWritten k k' l l' number line before after (Ok n) =
    (32 ≤ length before) × ((reply : Result Done Refusal) × LineDone k k' l l' line reply
    × (n ≡ length (answer_line number reply)) × (n ≤ 32) × (after ≡ answer_line number reply ++ drop n before))
LineWritten k k' l l' number line before after (Err e) =
    (length before < 32) × (e ≡ record { line = number; fault = Buffer ShortBuffer }) × (after ≡ before) × (k' ≡ k) × (l' ≡ l)
