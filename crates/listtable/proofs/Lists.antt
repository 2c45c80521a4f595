-- What the calls on a list make of its meaning.
use Rattle.std.proofs.Common.{◌≡◌, ℕ, ◌+◌, ◌-◌, ◌<◌, ◌≤◌, Bool, true, false, ◌⊎◌, List, length, get_or, take, set, slice_get, is_some, Some, None, Err, Option, sym, refl, ap, ◌∙◌, subst, inl, inr, arith}
use Rattle.std.specs.List.{position, position_or_len}
use Rattle.std.proofs.lemmas.List.{length-set, length-take-le, get_or-take}
use Rattle.std.proofs.lemmas.Option.{slice_get_cases}
use Rattle.std.proofs.lemmas.List.Quantifiers.{position-Some}
use Rattle.std.proofs.lemmas.List.Sums.{fails_before_first}
use Rattle.std.proofs.lemmas.Grind.{common_steps}
use Rattle.std.proofs.lemmas.Bool.{cases_lt}
use Rattle.kinds.specs.Keys.{same_key}
use Rattle.tables.specs.declared.record.Record.{Record}
use Rattle.tables.specs.Rows.{lookup, Apart}
use Rattle.tables.specs.declared.fault.TableFault.TheVariants.{TableFull}
use Rattle.tables.specs.Meaning.{SameFrame, Revalued, SetDone}
use Rattle.tables.proofs.Options.{none_some, some_one, of_none, of_some, same_is, differ_from}
use Rattle.tables.proofs.Lookups.{only_held, only_absent, absent_lookup, lookup_absent, lookup_held}
use Rattle.tables.proofs.Changes.{apart_set, revalued_set, apart_taken, revalued_taken}
use Rattle.listtable.specs.Lists.{list_capacity, places_of, list_meaning, beyond_list}
use Rattle.listtable.specs.Propers.{length_places, count_places}
use Rattle.listtable.proofs.Places.{at_held, at_read, at_free, held_row, same_length, places_write, places_append, places_fewer, beyond_write}

pub apart_none : {K V : Type 0} (rs : List (Record K V)) → Apart (places_of 0 rs)
apart_none rs t = none_some t.r (sym (at_free 0 rs t.i (omega arith) (omega arith)) ∙ t.first)

-- a row with a record of that key
abbrev pub Holds : {K V : Type 0} → Option (Record K V) → K → Type 0
Holds (Some r) k = r.key ≡ k
Holds None k = ⊥

-- Where a key stands among the places of which the first ones are held: at that place, or nowhere.
abbrev pub PlaceOf : {K V : Type 0} → (K → List ℕ) → ℕ → List (Record K V) → K → Option ℕ → Type 0
PlaceOf bytes held records k (Some place) = (place < held) × Holds (get_or (places_of held records) place None) k
PlaceOf bytes held records k None = lookup bytes (places_of held records) k ≡ None

-- a row that holds the key
pub holds_row : {K V : Type 0} (o : Option (Record K V)) (k : K) → Holds o k → (v : V) × (o ≡ Some (record { key = k; value = v }))
holds_row (Some r) k h = (r.value, ap (λ q. Some (record { key = q; value = r.value })) h)
holds_row None k h = absurd h

pub holds_from : {K V : Type 0} (o : Option (Record K V)) (r : Record K V) (k : K) → o ≡ Some r → r.key ≡ k → Holds o k
holds_from o r k e own = subst (λ x. Holds x k) (sym e) own

-- the two lists have the same frame
pub frame_list : {K V : Type 0} (held held' : ℕ) (rs rs' : List (Record K V)) → length rs' ≡ length rs → held ≤ list_capacity (length rs) → held' ≤ list_capacity (length rs') → SameFrame (list_meaning held rs) (list_meaning held' rs')
frame_list held held' rs rs' e h h' = record { admits = refl; capacity = ap list_capacity e; places = length_places held' rs' h' ∙ ap list_capacity e ∙ sym (length_places held rs h) }

-- what a call has made of a list
pub record Changed {K V : Type 0} (bytes : K → List ℕ) (held held' : ℕ) (rs rs' : List (Record K V)) (k : K) (w : Option V) : Type 0 where
  pub within : held' ≤ list_capacity (length rs')
  pub once : Apart (places_of held' rs')
  pub frame : SameFrame (list_meaning held rs) (list_meaning held' rs')
  pub beyond : beyond_list rs' ≡ beyond_list rs
  pub revalued : Revalued bytes (list_meaning held rs) (list_meaning held' rs') k w

module _ {K V : Type 0} (bytes : K → List ℕ) (apart : (a b : K) → bytes a ≡ bytes b → a ≡ b) (held : ℕ) (rs : List (Record K V)) (within : held ≤ list_capacity (length rs)) (once : Apart (places_of held rs)) where
  -- the value of a key that is held
  pub overwritten : (p : ℕ) (k : K) (v : V) → PlaceOf bytes held rs k (Some p) → Changed bytes held held rs (set rs p (record { key = k; value = v })) k (Some v)
  overwritten p k v at =
      let rows = places_of held rs in
      let o : Option (Record K V) = Some (record { key = k; value = v }) in
      let w = holds_row (get_or rows p None) k at.1 in
      let only = only_held rows p (record { key = k; value = w.0 }) once w.1 in
      let old = of_some (get_or rows p None) k w.0 w.1 in
      let eq = places_write held rs p (record { key = k; value = v }) within at.0 in
      let n = same_length rs p (record { key = k; value = v }) in
      let inside : p < length rows = omega (arith, at.0, length_places held rs within) in
      record {
        within = omega arith;
        once = subst (λ x. Apart x) (sym eq) (apart_set rows p k o inside only old (of_some o k v refl) once);
        frame = frame_list held held rs (set rs p (record { key = k; value = v })) (length-set rs p (record { key = k; value = v })) within (omega arith);
        beyond = beyond_write rs p (record { key = k; value = v }) (omega (arith, at.0));
        revalued = λ q. ap (λ x. lookup bytes x q) eq ∙ revalued_set rows p k o inside only old (of_some o k v refl) bytes apart once q;
      }

  -- a key that is new
  pub appended : (k : K) (v : V) → PlaceOf bytes held rs k None → held < list_capacity (length rs) → Changed bytes held (held + 1) rs (set rs held (record { key = k; value = v })) k (Some v)
  appended k v none room =
      let rows = places_of held rs in
      let o : Option (Record K V) = Some (record { key = k; value = v }) in
      let only = only_absent rows held k (absent_lookup bytes apart rows k none) in
      let old = of_none (get_or rows held None) k (at_free held rs held within (omega arith)) in
      let eq = places_append held rs (record { key = k; value = v }) room in
      let n = same_length rs held (record { key = k; value = v }) in
      let inside : held < length rows = omega (arith, length_places held rs within) in
      record {
        within = omega arith;
        once = subst (λ x. Apart x) (sym eq) (apart_set rows held k o inside only old (of_some o k v refl) once);
        frame = frame_list held (held + 1) rs (set rs held (record { key = k; value = v })) (length-set rs held (record { key = k; value = v })) within (omega arith);
        beyond = beyond_write rs held (record { key = k; value = v }) room;
        revalued = λ q. ap (λ x. lookup bytes x q) eq ∙ revalued_set rows held k o inside only old (of_some o k v refl) bytes apart once q;
      }

  -- a key taken out: the last record stands at its place
  pub taken_out : (p : ℕ) (k : K) (d : Record K V) → PlaceOf bytes held rs k (Some p) → Changed bytes held (held - 1) rs (set rs p (get_or rs (held - 1) d)) k None
  taken_out p k d at =
      let rows = places_of held rs in
      let w = holds_row (get_or rows p None) k at.1 in
      let s : Record K V = record { key = k; value = w.0 } in
      let x : Record K V = get_or rs (held - 1) d in
      let b = at.0 in
      let l = length_places held rs within in
      let n = same_length rs p (get_or rs (held - 1) d) in
      let last : get_or rows (held - 1) None ≡ Some (get_or rs (held - 1) d) = at_held held rs (held - 1) d within (omega arith) in
      let eq : places_of (held - 1) (set rs p (get_or rs (held - 1) d)) ≡ set (set rows p (get_or rows (held - 1) None)) (held - 1) None
      = places_fewer held (set rs p (get_or rs (held - 1) d)) d (omega arith) (omega arith)
      ∙ ap (λ y. set y (held - 1) None) (places_write held rs p (get_or rs (held - 1) d) within b ∙ ap (λ y. set rows p y) (sym last)) in
      record {
        within = omega arith;
        once = subst (λ y. Apart y) (sym eq) (apart_taken rows p (held - 1) (record { key = k; value = w.0 }) (omega arith) (omega arith) w.1 once);
        frame = frame_list held (held - 1) rs (set rs p (get_or rs (held - 1) d)) (length-set rs p (get_or rs (held - 1) d)) within (omega arith);
        beyond = beyond_write rs p (get_or rs (held - 1) d) (omega arith);
        revalued = λ q. ap (λ y. lookup bytes y q) eq ∙ revalued_taken rows p (held - 1) (record { key = k; value = w.0 }) (omega arith) (omega arith) w.1 once bytes apart q;
      }

  -- the value at the place of a key
  pub looked_at : (p : ℕ) (k : K) (x : Record K V) → PlaceOf bytes held rs k (Some p) → x ≡ get_or rs p x → Some x.value ≡ lookup bytes (places_of held rs) k
  looked_at p k x at is =
      let rows = places_of held rs in
      let row = at_read held rs p x within at.0 is in
      let own : x.key ≡ k = subst (λ o. Holds o k) row at.1 in
      sym (ap (lookup bytes rows) (sym own) ∙ lookup_held bytes apart rows p x once row)

  pub is_held : (p : ℕ) (k : K) → PlaceOf bytes held rs k (Some p) → is_some (lookup bytes (places_of held rs) k) ≡ true
  is_held p k at =
      let w = holds_row (get_or (places_of held rs) p None) k at.1 in
      ap is_some (lookup_held bytes apart (places_of held rs) p (record { key = k; value = w.0 }) once w.1)

module _ {K V : Type 0} (bytes : K → List ℕ) (apart : (a b : K) → bytes a ≡ bytes b → a ≡ b) (held : ℕ) (rs : List (Record K V)) (within : held ≤ list_capacity (length rs)) where
  -- a new key where as many are held as there is capacity for
  pub full : (k : K) (v : V) → PlaceOf bytes held rs k None → held ≡ list_capacity (length rs) → SetDone bytes (list_meaning held rs) (list_meaning held rs) k v (Err TableFull)
  full k v none e = (refl, ap is_some none, count_places held rs within ∙ e, refl)

  -- whether a record has the key
  abbrev pub has : K → Record K V → Bool
  has k r = same_key bytes r.key k

  -- what a search among the held records finds is where the key stands
  pub placed : (k : K) (o : Option ℕ) → o ≡ position (has k) (take held rs) → PlaceOf bytes held rs k o
  placed k (Some i) e = by_cases (slice_get_cases (take held rs) i).1
    where
      by_cases : ((x : Record K V) × (i < length (take held rs)) × (slice_get (take held rs) i ≡ Some x) × (get_or (take held rs) i x ≡ x)) ⊎ ((length (take held rs) ≤ i) × (slice_get (take held rs) i ≡ None)) → PlaceOf bytes held rs k (Some i)
      by_cases (inl (x, b, here, at)) =
          let t = position-Some (has k) (take held rs) i x (sym e) in
          let l = length-take-le held rs (omega arith) in
          (omega arith, holds_from (get_or (places_of held rs) i None) x k (held_row held rs i within ∙ here) (same_is bytes apart x.key k (ap (has k) (sym at) ∙ t.1)))
      by_cases (inr t) = absurd (let b : i < length (take held rs) = grind (arith, common_steps) in omega (arith, t.0))
  placed k None e = lookup_absent bytes apart (places_of held rs) k (λ j r here own. by_cases j r here own (cases_lt j held))
    where
      passed : held ≤ position_or_len (has k) (take held rs)
      passed = let l = length-take-le held rs (omega arith) in grind (arith, common_steps)

      by_cases : (j : ℕ) (r : Record K V) → get_or (places_of held rs) j None ≡ Some r → r.key ≡ k → (j < held) ⊎ (held ≤ j) → ⊥
      by_cases j r here own (inl b) =
          let p = passed in
          let is : get_or rs j r ≡ r = some_one (get_or rs j r) r (sym (at_held held rs j r within b) ∙ here) in
          let not : has k r ≡ false = ap (has k) (sym (get_or-take held rs j r b ∙ is)) ∙ fails_before_first (has k) (take held rs) j r (omega arith) in
          differ_from bytes r.key k not own
      by_cases j r here own (inr b) = none_some r (sym (at_free held rs j within b) ∙ here)
