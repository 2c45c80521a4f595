-- The places of a table: a list, each place free or with a record.
use Rattle.std.specs.Prelude.{◌≡◌, ℕ, cond, List, [], ◌∷◌, is_some, Some, None, Option, slice_index_or, count_by}
use Rattle.kinds.specs.Keys.{same_key}
use Rattle.tables.specs.declared.record.Record.{Record}

-- the value of a key: that of the first place that holds the key, or none
unfoldable pub lookup : {K V : Type 0} → (K → List ℕ) → List (Option (Record K V)) → K → Option V
lookup bytes [] k = None
lookup bytes (None ∷ rows) k = lookup bytes rows k
lookup bytes (Some r ∷ rows) k = cond (same_key bytes r.key k) (Some r.value) (lookup bytes rows k)

-- how many places hold a record
abbrev pub record_count : {R : Type 0} → List (Option R) → ℕ
record_count rows = count_by is_some rows

-- the keys that are held, in the order of their places
unfoldable pub keys_of : {K V : Type 0} → List (Option (Record K V)) → List K
keys_of [] = []
keys_of (None ∷ rows) = keys_of rows
keys_of (Some r ∷ rows) = r.key ∷ keys_of rows

-- two places that hold one key
pub record Twice {K V : Type 0} (rows : List (Option (Record K V))) : Type 0 where
  pub i : ℕ
  pub j : ℕ
  pub r : Record K V
  pub s : Record K V
  pub first : slice_index_or rows i None ≡ Some r
  pub second : slice_index_or rows j None ≡ Some s
  pub same : r.key ≡ s.key

-- no key stands at two places
abbrev pub Apart : {K V : Type 0} → List (Option (Record K V)) → Type 0
Apart rows = (t : Twice rows) → t.i ≡ t.j
