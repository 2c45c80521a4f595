-- A book in which nothing is held.
use Rattle.std.specs.Prelude.{◌≡◌, ℕ, List, []}
use Rattle.tables.specs.Meaning.{value_in}
use Rattle.history.specs.Beginnings.{nothing}
use Rattle.history.specs.Rules.{Terms}
use Rattle.book.specs.Books.{terms_of}
use Rattle.book.specs.Reached.{State, Reached}

-- it is as an accepted opening leaves it, and no key has a value
pub record IsFresh {K V : Type 0} (bytes : K → List ℕ) (s : State K V) : Type 0 where
  pub reached : Reached bytes s s []
  pub holds : value_in bytes s.table ≡ nothing

-- what the rules go by in a book
abbrev pub terms : {K V : Type 0} → (K → List ℕ) → State K V → Terms K
terms bytes s = terms_of bytes s.number s.filter s.table
