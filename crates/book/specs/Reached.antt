-- The law of a book that was opened, whatever calls were made on it since.
use Rattle.std.specs.Prelude.{◌≡◌, ℕ, List, [], ◌∷◌, ◌++◌, map}
use Rattle.layout.specs.Rule.{sorted, Roomy}
use Rattle.filter.specs.Cuts.{cut_to}
use Rattle.filter.specs.Filters.{SameFilter, words_of, fingerprints, slots_of, laid_over}
use Rattle.filter.specs.declared.filter.Filter.{Filter}
use Rattle.tables.specs.Rows.{keys_of, Apart}
use Rattle.tables.specs.Meaning.{Meaning, SameFrame, value_in}
use Rattle.history.specs.History.{Event, History, Follows, Current}
use Rattle.history.specs.Law.{Law}
use Rattle.book.specs.Books.{terms_of, fingerprints_of}
use Rattle.book.specs.declared.book.Book.{Book}

-- What the law sees of a book: its filter, what its table means, and the number of each key.
pub record State (K V : Type 0) : Type 0 where
  pub filter : Filter
  pub table : Meaning K V
  pub number : K → ℕ

-- the parts as such a state
abbrev pub state_of : {K V : Type 0} → Filter → Meaning K V → (K → ℕ) → State K V
state_of f m number = record { filter = f; table = m; number = number }

-- that of a lent book, by what its table and its fingerprint say of themselves
abbrev pub state : {X P K V : Type 0} → (X → Meaning K V) → (P → K → ℕ) → Book X P → State K V
state meaning number b = state_of b.filter.now (meaning b.table.now) (number b.by.now)

-- A book in state `start` was opened without refusal, history h was then performed on it, and nothing
-- else changed its filter or its table: what holds of its state `now`, and of the answers in h.
pub record Reached {K V : Type 0} (bytes : K → List ℕ) (start now : State K V) (h : History K V) : Type 0 where
  -- the opening crowded no quotient
  pub room : Roomy (slots_of start.filter) start.filter.plan.r
      (fingerprints_of start.number start.filter start.table)
  -- every answer is the one due
  pub law : Law (terms_of bytes start.number start.filter start.table) (value_in bytes start.table) h
  -- each key has the value in the table that its last accepted put or drop gave, or else that of the
  -- opening
  pub values : Follows (value_in bytes start.table) h (value_in bytes now.table)
  -- each current key, that is one with a value, stands at one place of the table, and no other key
  -- stands at any
  pub keys : Current bytes (value_in bytes now.table) (keys_of now.table.rows)
  -- the entries of the filter are the fingerprints of these keys, one for each
  pub entries : fingerprints now.filter ≡ sorted (fingerprints_of start.number start.filter now.table)
  -- its words are those laid out from nothing with the fingerprints of the current keys, one for
  -- each, however these are listed; later words stay
  pub words : (ks : List K) → Current bytes (value_in bytes now.table) ks
      → words_of now.filter
      ≡ laid_over start.filter.plan.r start.filter.blocks
      (map (λ k. cut_to start.filter.plan (start.number k)) ks) (words_of start.filter)
  -- what never changes
  pub number : now.number ≡ start.number
  pub filter : SameFilter start.filter now.filter
  pub frame : SameFrame start.table now.table

-- A filter without entries in front of a table without keys needs no opening.
abbrev pub EmptyIsOpen : {K : Type 0} → (V : Type 0) → (K → List ℕ) → Type 0
EmptyIsOpen {K} V bytes = (s : State K V) → Apart s.table.rows → fingerprints s.filter ≡ []
    → keys_of s.table.rows ≡ [] → Reached bytes s s []

-- Event e, which leads from one state to another, goes on with every history that led there.
abbrev pub Extends : {K V : Type 0} → (K → List ℕ) → State K V → State K V → Event K V → Type 0
Extends {K} {V} bytes before after e = (start : State K V) (h : History K V)
    → Reached bytes start before h → Reached bytes start after (h ++ e ∷ [])
