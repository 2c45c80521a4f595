-- Places one by one: what a row is, and when two keys are the same.
use Rattle.std.proofs.Common.{◌≡◌, ℕ, true, false, List, Some, None, Option, refl, arith}
use Rattle.std.proofs.lemmas.Slice.Eq.{bytes_eq-Decides}
use Rattle.std.proofs.lemmas.Bool.{both_ways}
use Rattle.kinds.specs.Keys.{same_key}
use Rattle.tables.specs.declared.record.Record.{Record}

pub none_some : {A P : Type 0} (a : A) → None ≡ Some a → P
none_some a e = let z : ◌≡◌ {A = ℕ} 0 1 = cc in absurd (omega arith)

pub some_one : {A : Type 0} (a b : A) → Some a ≡ Some b → a ≡ b
some_one a b e = cc

-- the value in a row
abbrev pub record_value : {K V : Type 0} → Option (Record K V) → Option V
record_value (Some r) = Some r.value
record_value None = None

-- what the row holds, if anything, has the key
abbrev pub Of : {K V : Type 0} → Option (Record K V) → K → Type 0
Of {K} {V} o k = (r : Record K V) → o ≡ Some r → r.key ≡ k

pub of_none : {K V : Type 0} (o : Option (Record K V)) (k : K) → o ≡ None → Of o k
of_none o k e r s = let z : None ≡ Some r = cc in none_some r z

pub of_some : {K V : Type 0} (o : Option (Record K V)) (k : K) (v : V) → o ≡ Some (record { key = k; value = v }) → Of o k
of_some o k v e r s = let z : record { key = k; value = v } ≡ r = some_one (record { key = k; value = v }) r (cc) in cc

pub same_is : {K : Type 0} (bytes : K → List ℕ) (apart : (a b : K) → bytes a ≡ bytes b → a ≡ b) (a b : K) → same_key bytes a b ≡ true → a ≡ b
same_is bytes apart a b h = apart a b ((bytes_eq-Decides (bytes a) (bytes b)).0 h)

pub same_refl : {K : Type 0} (bytes : K → List ℕ) (a : K) → same_key bytes a a ≡ true
same_refl bytes a = (bytes_eq-Decides (bytes a) (bytes a)).1 refl

pub same_from : {K : Type 0} (bytes : K → List ℕ) (a b : K) → a ≡ b → same_key bytes a b ≡ true
same_from bytes a b e = (bytes_eq-Decides (bytes a) (bytes b)).1 (cc)

pub differ_from : {K : Type 0} (bytes : K → List ℕ) (a b : K) → same_key bytes a b ≡ false → a ≡ b → ⊥
differ_from bytes a b h e = both_ways (same_key bytes a b) h (same_from bytes a b e)
