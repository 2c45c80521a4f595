-- What a table means, and what its calls make of that meaning.
use Rattle.std.specs.Prelude.{◌≡◌, ℕ, ◌^◌, ◌<◌, ◌≤◌, Bool, true, false, cond, ◌⊎◌, List, length, is_some, Some, None, Ok, Err, Option, Result, slice_index_or}
use Rattle.kinds.specs.Keys.{same_key}
use Rattle.tables.specs.declared.record.Record.{Record}
use Rattle.tables.specs.declared.fault.TableFault.{TableFault}
use Rattle.tables.specs.declared.fault.TableFault.TheVariants.{ForeignGlyph, TableFull, NotHeld}
use Rattle.tables.specs.Rows.{lookup, record_count, Apart}

-- a table: its places, the keys that it admits, and how many it holds at most
pub record Meaning (K V : Type 0) : Type 0 where
  pub rows : List (Option (Record K V))
  pub admits : K → Bool
  pub capacity : ℕ

-- What holds of every sound table. Which place holds a record is left free, while each held key has one.
pub record Proper {K V : Type 0} (m : Meaning K V) : Type 0 where
  pub once : Apart m.rows
  pub within : record_count m.rows ≤ m.capacity
  pub admitted : (i : ℕ) (r : Record K V) → slice_index_or m.rows i None ≡ Some r → m.admits r.key ≡ true
  pub few : length m.rows < 2 ^ 32

-- the value of a key in a table, or none
abbrev pub value_in : {K V : Type 0} → (K → List ℕ) → Meaning K V → K → Option V
value_in bytes m k = lookup bytes m.rows k

-- how many keys a table holds
abbrev pub key_count : {K V : Type 0} → Meaning K V → ℕ
key_count m = record_count m.rows

-- What never changes: the keys admitted, the capacity and the number of places are the same in m and in n.
pub record SameFrame {K V : Type 0} (m n : Meaning K V) : Type 0 where
  pub admits : n.admits ≡ m.admits
  pub capacity : n.capacity ≡ m.capacity
  pub places : length n.rows ≡ length m.rows

-- n is m, but key k has value v there, or none; every other key has the value that it had
abbrev pub Revalued : {K V : Type 0} → (K → List ℕ) → Meaning K V → Meaning K V → K → Option V → Type 0
Revalued {K} bytes m n k v = (q : K) → value_in bytes n q ≡ cond (same_key bytes k q) v (value_in bytes m q)

-- What a set of value v under key k makes of table m: n. A key that is not admitted is refused; a held key always gets its value; a new one is refused
-- exactly where as many keys are held as there is capacity for.
abbrev pub SetDone : {K V : Type 0} → (K → List ℕ) → Meaning K V → Meaning K V → K → V → Result (Unit {0}) TableFault → Type 0
SetDone bytes m n k v (Ok done) =
    (m.admits k ≡ true) × ((is_some (value_in bytes m k) ≡ true) ⊎ (key_count m < m.capacity)) × Revalued bytes m n k (Some v)
SetDone bytes m n k v (Err ForeignGlyph) = (m.admits k ≡ false) × (n ≡ m)
SetDone bytes m n k v (Err TableFull) =
    (m.admits k ≡ true) × (is_some (value_in bytes m k) ≡ false) × (key_count m ≡ m.capacity) × (n ≡ m)
SetDone bytes m n k v (Err NotHeld) = ⊥

-- What the removal of key k makes of table m: n. It is refused exactly where the key is not held.
abbrev pub RemoveDone : {K V : Type 0} → (K → List ℕ) → Meaning K V → Meaning K V → K → Result (Unit {0}) TableFault → Type 0
RemoveDone bytes m n k (Ok done) = (is_some (value_in bytes m k) ≡ true) × Revalued bytes m n k None
RemoveDone bytes m n k (Err NotHeld) = (is_some (value_in bytes m k) ≡ false) × (n ≡ m)
RemoveDone bytes m n k (Err ForeignGlyph) = ⊥
RemoveDone bytes m n k (Err TableFull) = ⊥
