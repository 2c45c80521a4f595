-- What a client's own loop asks of a book.
use Rattle.std.specs.Prelude.{◌≡◌, ℕ, List, [], ◌∷◌, map, flat_map}
use Rattle.history.specs.History.{History}
use Rattle.history.specs.declared.operation.Operation.{Operation}
use Rattle.history.specs.declared.operation.Operation.TheVariants.{Put, Drop, Find}
use Rattle.book.specs.Reached.{State, Reached}

-- of each key in turn: to put it with that value, to look for it, and to drop it
abbrev pub asked_of_each : {K V : Type 0} → V → List K → List (Operation K V)
asked_of_each value keys = flat_map (λ key. Put key value ∷ Find key ∷ Drop key ∷ []) keys

-- the book was opened and asked just that, and stands where this history leads
pub record TriedEach {K V : Type 0} (bytes : K → List ℕ) (start now : State K V) (value : V) (keys : List K) : Type 0 where
  pub history : History K V
  pub operations : map (λ e. e.0) history ≡ asked_of_each value keys
  pub reached : Reached bytes start now history
