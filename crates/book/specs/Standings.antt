-- A book as it stands.
use Rattle.std.specs.Prelude.{◌≡◌, ℕ, List}
use Rattle.std.specs.Borrow.{GName}
use Rattle.filter.specs.declared.filter.Filter.{Filter}
use Rattle.tables.specs.Meaning.{Meaning, SameFrame}
use Rattle.history.specs.Rules.{Terms, Holdings}
use Rattle.filter.specs.Filters.{SameFilter}
use Rattle.book.specs.Books.{terms_of, held_by}
use Rattle.book.specs.declared.book.Book.{Book}

-- its filter, what its table means, the loan that the table writes through and what lies beyond it there, and the number of each key; and whose
-- filter and table they are
pub record Standing (K V B : Type 0) : Type 0 where
  pub filter : Filter
  pub table : Meaning K V
  pub lender : GName
  pub beyond : B
  pub number : K → ℕ
  pub owners : GName × GName

-- a lent book, by what its table and its fingerprint say of themselves
abbrev pub standing : {X P K V B : Type 0} → (X → Meaning K V) → (X → GName) → (X → B) → (P → K → ℕ) → Book X P → Standing K V B
standing meaning lender beyond number b =
    record {
      filter = b.filter.now;
      table = meaning b.table.now;
      lender = lender b.table.now;
      beyond = beyond b.table.now;
      number = number b.by.now;
      owners = (b.filter.ghost_name, b.table.ghost_name);
    }

-- what no operation changes
pub record Steady {K V B : Type 0} (before after : Standing K V B) : Type 0 where
  pub frame : SameFrame before.table after.table
  pub lender : after.lender ≡ before.lender
  pub beyond : after.beyond ≡ before.beyond
  pub number : after.number ≡ before.number
  pub owners : after.owners ≡ before.owners
  pub filter : SameFilter before.filter after.filter

-- what the rules go by in a book as it stands
abbrev pub terms_at : {K V B : Type 0} → (K → List ℕ) → Standing K V B → Terms K
terms_at bytes s = terms_of bytes s.number s.filter s.table

-- what it holds
abbrev pub held_at : {K V B : Type 0} → (K → List ℕ) → Standing K V B → Holdings K V
held_at bytes s = held_by bytes s.filter s.table
