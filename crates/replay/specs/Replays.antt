-- What a book makes of one operation, and of a whole list of them.
use Rattle.std.specs.Prelude.{◌≡◌, ℕ, List, map, Some, Ok, Err, Result}
use Rattle.history.specs.History.{Event, History}
use Rattle.history.specs.Rules.{Answer, Rule}
use Rattle.history.specs.declared.call.Call.{Call}
use Rattle.history.specs.declared.fault.BookFault.{BookFault}
use Rattle.history.specs.declared.operation.Operation.{Operation}
use Rattle.history.specs.declared.operation.Operation.TheVariants.{Find}
use Rattle.book.specs.Books.{Opened, OperationDone}
use Rattle.book.specs.Reached.{State, Reached}
use Rattle.book.specs.Standings.{Standing, terms_at, held_at}

-- an operation on a book as it stands: the answer is the one that the rules give, and filter and
-- table are what it makes of them
pub record Performs {K V B : Type 0} (bytes : K → List ℕ) (before after : Standing K V B)
    (o : Operation K V) (a : Answer V) : Type 0 where
  pub answer : Rule (terms_at bytes before) (held_at bytes before) o a
  pub done : OperationDone bytes before.number before.filter after.filter before.table after.table o a

-- an operation that writes nothing into the table: a find, or one that is refused
abbrev pub IsReadOnly : {K V : Type 0} → Operation K V → Answer V → Type 0
IsReadOnly (Find k) a = Unit {0}
IsReadOnly o (Err e) = Unit {0}
IsReadOnly o (Ok told) = ⊥

-- an operation with its answer beside it
abbrev pub call_of : {K V : Type 0} → Event K V → Call K V
call_of e = record { operation = e.0; answer = Some e.1 }

-- The operations of the calls were performed in order, each stands with its answer beside it, and the
-- book is where that history leads.
pub record Replayed {K V : Type 0} (bytes : K → List ℕ) (start now : State K V)
    (before after : List (Call K V)) : Type 0 where
  pub history : History K V
  -- the history has just the operations asked for
  pub operations : map (λ e. e.0) history ≡ map (λ c. c.operation) before
  -- and the calls show just this history
  pub answers : after ≡ map call_of history
  -- the law of the book, of its answers, its table and its words
  pub reached : Reached bytes start now history

-- An opening is refused exactly where the held keys crowd some quotient: the filter is then empty,
-- and no operation is done.
abbrev pub ReplayDone : {K V : Type 0} → (K → List ℕ) → State K V → State K V
    → List (Call K V) → List (Call K V) → Result (Unit {0}) BookFault → Type 0
ReplayDone bytes start now before after (Ok done) = Replayed bytes start now before after
ReplayDone bytes start now before after (Err e) =
    Opened start.number start.filter now.filter start.table (Err e) × (now.table ≡ start.table) × (after ≡ before)
