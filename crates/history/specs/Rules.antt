-- The rules of a book: what each operation is answered, by what the table and the filter hold.
use Rattle.std.specs.Prelude.{◌≡◌, ℕ, ◌<◌, ◌≤◌, Bool, true, false, List, ◌∷◌, is_some, Ok, Err, Option, Result}
use Rattle.layout.specs.Rule.{Roomy}
use Rattle.layout.specs.Laws.{copies_of}
use Rattle.filter.specs.Filters.{Crowds}
use Rattle.filter.specs.declared.plan.Plan.{Plan}
use Rattle.filter.specs.declared.fault.FilterFault.TheVariants.{NoSlot}
use Rattle.tables.specs.declared.fault.TableFault.TheVariants.{ForeignGlyph, TableFull, NotHeld}
use Rattle.history.specs.declared.operation.Operation.{Operation}
use Rattle.history.specs.declared.operation.Operation.TheVariants.{Put, Drop, Find}
use Rattle.history.specs.declared.answer.Stored.{Stored}
use Rattle.history.specs.declared.answer.Stored.TheVariants as stored
use Rattle.history.specs.declared.answer.Found.{Found}
use Rattle.history.specs.declared.answer.Found.TheVariants as found
use Rattle.history.specs.declared.answer.Told.{Told}
use Rattle.history.specs.declared.answer.Told.TheVariants as told
use Rattle.history.specs.declared.fault.BookFault.{BookFault}
use Rattle.history.specs.declared.fault.BookFault.TheVariants.{Filter, Table, StrangeFilter}

-- What stays the same while a book is open.
pub record Terms (K : Type 0) : Type 0 where
  pub bytes : K → List ℕ  -- a key's bytes, which tell it from every other
  pub fingerprint : K → ℕ  -- a key's fingerprint under the filter's plan
  pub admits : K → Bool  -- whether the table takes the key
  pub capacity : ℕ  -- how many keys the table holds at most
  pub plan : Plan  -- the filter's plan
  pub slots : ℕ  -- how many slots the filter has

-- What a book holds: the value of each key in the table, how many keys those are, and the entries of the filter.
pub record Holdings (K V : Type 0) : Type 0 where
  pub value : K → Option V
  pub held : ℕ
  pub entries : List ℕ

-- A put of key k: a key that the table does not admit is refused. A held key is changed. A new one is refused where the table is full, then where some
-- quotient is crowded with the newcomer counted; else it is kept. There is no other refusal.
abbrev pub PutRule : {K V : Type 0} → Terms K → Holdings K V → K → Result Stored BookFault → Type 0
PutRule t h k (Err (Table ForeignGlyph)) = t.admits k ≡ false
PutRule t h k (Ok stored.Changed) = (t.admits k ≡ true) × (is_some (h.value k) ≡ true)
PutRule t h k (Err (Table TableFull)) = (t.admits k ≡ true) × (is_some (h.value k) ≡ false) × (t.capacity ≤ h.held)
PutRule t h k (Err (Filter NoSlot)) =
    (t.admits k ≡ true) × (is_some (h.value k) ≡ false) × (h.held < t.capacity) × Crowds t.plan t.slots (t.fingerprint k ∷ h.entries)
PutRule t h k (Ok stored.Kept) =
    (t.admits k ≡ true) × (is_some (h.value k) ≡ false) × (h.held < t.capacity) × Roomy t.slots t.plan.r (t.fingerprint k ∷ h.entries)
PutRule t h k (Err e) = ⊥

-- A drop of key k: refused where the key is not held, then where no entry has its fingerprint. There is no other refusal.
abbrev pub DropRule : {K V : Type 0} → Terms K → Holdings K V → K → Result (Unit {0}) BookFault → Type 0
DropRule t h k (Err (Table NotHeld)) = is_some (h.value k) ≡ false
DropRule t h k (Err StrangeFilter) = (is_some (h.value k) ≡ true) × (copies_of (t.fingerprint k) h.entries ≡ 0)
DropRule t h k (Ok done) =
    (is_some (h.value k) ≡ true) × (0 < copies_of (t.fingerprint k) h.entries)
DropRule t h k (Err e) = ⊥

-- A find of key k ends at the filter where no entry has its fingerprint; else it gives the value in the table.
abbrev pub FindRule : {K V : Type 0} → Terms K → Holdings K V → K → Found V → Type 0
FindRule t h k found.Filter = copies_of (t.fingerprint k) h.entries ≡ 0
FindRule t h k (found.Table v) = (0 < copies_of (t.fingerprint k) h.entries) × (v ≡ h.value k)

-- What a book answers to an operation: what it did, or why it is refused.
abbrev pub Answer : Type 0 → Type 0
Answer V = Result (Told V) BookFault

-- The answer that the rules give to an operation; no answer of another kind is given.
abbrev pub Rule : {K V : Type 0} → Terms K → Holdings K V → Operation K V → Answer V → Type 0
Rule t h (Put k v) (Ok (told.Stored s)) = PutRule t h k (Ok s)
Rule t h (Put k v) (Err f) = PutRule t h k (Err f)
Rule t h (Drop k) (Ok told.Dropped) = DropRule t h k (Ok tt)
Rule t h (Drop k) (Err f) = DropRule t h k (Err f)
Rule t h (Find k) (Ok (told.Found f)) = FindRule t h k f
Rule t h o a = ⊥
