-- A table over lent records, of which the first ones are held.
use Rattle.std.specs.Prelude.{◌≡◌, ℕ, ◌+◌, ◌-◌, min, true, List, ◌++◌, map, length, take, drop, replicate, Some, None, Option, Ok, Err, Result, slice_index_or, slice_set}
use Rattle.std.specs.List.{position}
use Rattle.kinds.specs.Keys.{same_key}
use Rattle.tables.specs.declared.fault.TableFault.{TableFault}
use Rattle.tables.specs.declared.record.Record.{Record}
use Rattle.tables.specs.Meaning.{Meaning}

-- how many keys can be held in so many records: one in each, but in no more than 65,536
abbrev pub list_capacity : ℕ → ℕ
list_capacity lent = min lent 65536

-- the places: the records that are held, then free ones up to the capacity
unfoldable pub places_of : {R : Type 0} → ℕ → List R → List (Option R)
places_of held records = map Some (take held records) ++ replicate (list_capacity (length records) - held) None

-- what the table means: any key is admitted
abbrev pub list_meaning : {K V : Type 0} → ℕ → List (Record K V) → Meaning K V
list_meaning held records = record { rows = places_of held records; admits = λ _. true; capacity = list_capacity (length records) }

-- the table that holds nothing
abbrev pub empty_list : {K V : Type 0} → ℕ → Meaning K V
empty_list capacity = record { rows = replicate capacity None; admits = λ _. true; capacity = capacity }

-- the records past the last that a table can hold
abbrev pub beyond_list : {R : Type 0} → List R → List R
beyond_list records = drop 65536 records

-- where a key is held: the first place of those held whose record has it, or none
abbrev pub key_place : {K V : Type 0} → (K → List ℕ) → ℕ → List (Record K V) → K → Option ℕ
key_place bytes held records k = position (λ r. same_key bytes r.key k) (take held records)

-- What a `set` makes of a list, by the place that its key has before it: how many are held then, and the lent records. Of a held key the record at its place
-- alone is written; of a new key the one after the last held alone, and one more is held. A refusal writes none.
abbrev pub SetWrites : {K V : Type 0} → Result (Unit {0}) TableFault → Option ℕ → K → V → ℕ → List (Record K V) → ℕ → List (Record K V) → Type 0
SetWrites (Ok done) (Some place) k v held records held' records' = (held' ≡ held) × (records' ≡ slice_set records place (record { key = k; value = v }))
SetWrites (Ok done) None k v held records held' records' = (held' ≡ held + 1) × (records' ≡ slice_set records held (record { key = k; value = v }))
SetWrites (Err fault) place k v held records held' records' = (held' ≡ held) × (records' ≡ records)

-- What a `remove` makes of it: the place of the key has what the last place held had, no other record is written, and one fewer is held. A refusal writes none.
-- Any d will do, since the last place held is one of the lent records.
abbrev pub RemoveWrites : {R : Type 0} → Result (Unit {0}) TableFault → Option ℕ → ℕ → List R → ℕ → List R → Type 0
RemoveWrites {R} (Ok done) (Some place) held records held' records' =
    (held' ≡ held - 1) × ((d : R) → records' ≡ slice_set records place (slice_index_or records (held - 1) d))
RemoveWrites (Ok done) None held records held' records' = ⊥
RemoveWrites (Err fault) place held records held' records' = (held' ≡ held) × (records' ≡ records)
