-- What the calls of a book make of its filter and its table. Below, f and m are the filter and the table's meaning before a call, g and n after it;
-- number gives each key its 64-bit number. The filter need not belong to the table.
use Rattle.std.specs.Prelude.{◌≡◌, ℕ, List, [], ◌∷◌, map, Some, None, Ok, Err, Result}
use Rattle.layout.specs.Rule.{sorted, with_one, without_one, Roomy}
use Rattle.filter.specs.Cuts.{cut_to}
use Rattle.filter.specs.Filters.{Crowds, words_of, fingerprints, slots_of, laid_over, cleared_over}
use Rattle.filter.specs.declared.fault.FilterFault.TheVariants.{NoSlot}
use Rattle.filter.specs.declared.filter.Filter.{Filter}
use Rattle.tables.specs.Rows.{keys_of}
use Rattle.tables.specs.Meaning.{Meaning, value_in, key_count, Revalued}
use Rattle.history.specs.Rules.{Terms, Holdings, Answer}
use Rattle.history.specs.declared.operation.Operation.{Operation}
use Rattle.history.specs.declared.operation.Operation.TheVariants.{Put, Drop, Find}
use Rattle.history.specs.declared.answer.Told.TheVariants as told
use Rattle.history.specs.declared.answer.Stored.{Stored}
use Rattle.history.specs.declared.answer.Stored.TheVariants.{Kept, Changed}
use Rattle.history.specs.declared.fault.BookFault.{BookFault}
use Rattle.history.specs.declared.fault.BookFault.TheVariants as fault

-- what the rules go by
abbrev pub terms_of : {K V : Type 0} → (K → List ℕ) → (K → ℕ) → Filter → Meaning K V → Terms K
terms_of bytes number f m = record {
  bytes = bytes;
  fingerprint = λ k. cut_to f.plan (number k);
  admits = m.admits;
  capacity = m.capacity;
  plan = f.plan;
  slots = slots_of f;
}

-- what a filter and a table hold
abbrev pub held_by : {K V : Type 0} → (K → List ℕ) → Filter → Meaning K V → Holdings K V
held_by bytes f m =
    record { value = value_in bytes m; held = key_count m; entries = fingerprints f }

-- the fingerprints of the keys that a table holds, one for each
abbrev pub fingerprints_of : {K V : Type 0} → (K → ℕ) → Filter → Meaning K V → List ℕ
fingerprints_of number f m = map (λ k. cut_to f.plan (number k)) (keys_of m.rows)

-- A new key brings one more entry and its record; a held one gets the value, and the filter stays; a refusal changes neither.
abbrev pub PutDone : {K V : Type 0} → (K → List ℕ) → (K → ℕ) → Filter → Filter → Meaning K V → Meaning K V → K → V → Result Stored BookFault → Type 0
PutDone bytes number f g m n k v (Ok Kept) =
    (fingerprints g ≡ with_one (cut_to f.plan (number k)) (fingerprints f))
    × (words_of g ≡ laid_over f.plan.r f.blocks (cut_to f.plan (number k) ∷ fingerprints f) (words_of f))
    × Revalued bytes m n k (Some v)
PutDone bytes number f g m n k v (Ok Changed) = (g ≡ f) × Revalued bytes m n k (Some v)
PutDone bytes number f g m n k v (Err e) = (g ≡ f) × (n ≡ m)

-- One entry and the record go; a refusal changes neither.
abbrev pub DropDone : {K V : Type 0} → (K → List ℕ) → (K → ℕ) → Filter → Filter → Meaning K V → Meaning K V → K → Result (Unit {0}) BookFault → Type 0
DropDone bytes number f g m n k (Ok done) =
    (fingerprints g ≡ without_one (cut_to f.plan (number k)) (fingerprints f))
    × (words_of g ≡ laid_over f.plan.r f.blocks (without_one (cut_to f.plan (number k)) (fingerprints f)) (words_of f))
    × Revalued bytes m n k None
DropDone bytes number f g m n k (Err e) = (g ≡ f) × (n ≡ m)

-- The filter is laid out anew with the fingerprints of all keys held, whatever it held before. It is refused a slot exactly where these crowd some
-- quotient; the filter is then empty.
abbrev pub Opened : {K V : Type 0} → (K → ℕ) → Filter → Filter → Meaning K V → Result (Unit {0}) BookFault → Type 0
Opened number f g m (Ok done) =
    Roomy (slots_of f) f.plan.r (fingerprints_of number f m) × (fingerprints g ≡ sorted (fingerprints_of number f m))
    × (words_of g ≡ laid_over f.plan.r f.blocks (fingerprints_of number f m) (words_of f))
Opened number f g m (Err e) =
    (e ≡ fault.Filter NoSlot) × Crowds f.plan (slots_of f) (fingerprints_of number f m)
    × (fingerprints g ≡ []) × (words_of g ≡ cleared_over f.plan.r f.blocks (words_of f))

-- What an operation with its answer makes of filter and table: a find changes neither. No other answer is given.
abbrev pub OperationDone : {K V : Type 0} → (K → List ℕ) → (K → ℕ) → Filter → Filter → Meaning K V → Meaning K V
    → Operation K V → Answer V → Type 0
OperationDone bytes number f g m n (Put k v) (Ok (told.Stored s)) = PutDone bytes number f g m n k v (Ok s)
OperationDone bytes number f g m n (Put k v) (Err e) = PutDone bytes number f g m n k v (Err e)
OperationDone bytes number f g m n (Drop k) (Ok told.Dropped) = DropDone bytes number f g m n k (Ok tt)
OperationDone bytes number f g m n (Drop k) (Err e) = DropDone bytes number f g m n k (Err e)
OperationDone bytes number f g m n (Find k) (Ok (told.Found x)) = (g ≡ f) × (n ≡ m)
OperationDone bytes number f g m n o a = ⊥
