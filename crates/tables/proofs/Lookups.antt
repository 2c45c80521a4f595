-- What is looked up, by the places that hold the key.
use Rattle.std.proofs.Common.{◌≡◌, ℕ, zero, suc, Bool, true, false, cond, ◌⊎◌, List, [], ◌∷◌, get_or, replicate, Some, None, Option, sym, refl, ap, ◌∙◌, inl, inr}
use Rattle.kinds.specs.Keys.{same_key}
use Rattle.tables.specs.declared.record.Record.{Record}
use Rattle.tables.specs.Rows.{lookup, keys_of, Apart}
use Rattle.tables.proofs.Options.{none_some, some_one, record_value, Of, same_is, differ_from}

-- a place that holds the record
pub record Stands {K V : Type 0} (rows : List (Option (Record K V))) (r : Record K V) : Type 0 where
  pub at : ℕ
  pub here : get_or rows at None ≡ Some r

-- no place holds the key
abbrev pub Absent : {K V : Type 0} → List (Option (Record K V)) → K → Type 0
Absent {K} {V} rows k = (i : ℕ) (r : Record K V) → get_or rows i None ≡ Some r → r.key ≡ k → ⊥

-- the key stands at place p, if anywhere
abbrev pub Only : {K V : Type 0} → List (Option (Record K V)) → ℕ → K → Type 0
Only {K} {V} rows p k = (i : ℕ) (r : Record K V) → get_or rows i None ≡ Some r → r.key ≡ k → i ≡ p

pub only_held : {K V : Type 0} (rows : List (Option (Record K V))) (p : ℕ) (s : Record K V) → Apart rows → get_or rows p None ≡ Some s → Only rows p s.key
only_held rows p s a e i r h own = a (record { i = i; j = p; r = r; s = s; first = h; second = e; same = own })

pub only_absent : {K V : Type 0} (rows : List (Option (Record K V))) (p : ℕ) (k : K) → Absent rows k → Only rows p k
only_absent rows p k none i r h own = absurd (none i r h own)

-- a table has one record at most of a key
pub one_record : {K V : Type 0} (rows : List (Option (Record K V))) (r s : Record K V) → Apart rows → Stands rows r → Stands rows s → r.key ≡ s.key → r ≡ s
one_record rows r s a p q own =
    let e : p.at ≡ q.at = a (record { i = p.at; j = q.at; r = r; s = s; first = p.here; second = q.here; same = own }) in
    some_one r s (sym p.here ∙ ap (λ n. get_or rows n None) e ∙ q.here)

module _ {K V : Type 0} (bytes : K → List ℕ) (apart : (a b : K) → bytes a ≡ bytes b → a ≡ b) where
  -- the key is found at a place
  pub record Found (rows : List (Option (Record K V))) (k : K) : Type 0 where
    pub r : Record K V
    pub at : ℕ
    pub here : get_or rows at None ≡ Some r
    pub own : r.key ≡ k
    pub found : lookup bytes rows k ≡ Some r.value

  -- the key is found at no place
  pub record Missed (rows : List (Option (Record K V))) (k : K) : Type 0 where
    pub absent : Absent rows k
    pub missed : lookup bytes rows k ≡ None

  absent_more : (o : Option (Record K V)) (rows : List (Option (Record K V))) (k : K) → ((r : Record K V) → o ≡ Some r → r.key ≡ k → ⊥) → Absent rows k → Absent (o ∷ rows) k
  absent_more o rows k here rest zero r e own = here r e own
  absent_more o rows k here rest (suc i) r e own = rest i r e own

  later : (o : Option (Record K V)) (rows : List (Option (Record K V))) (k : K) → lookup bytes (o ∷ rows) k ≡ lookup bytes rows k → ((r : Record K V) → o ≡ Some r → r.key ≡ k → ⊥)
      → Found rows k ⊎ Missed rows k → Found (o ∷ rows) k ⊎ Missed (o ∷ rows) k
  later o rows k l not (inl f) = inl (record { r = f.r; at = suc f.at; here = f.here; own = f.own; found = l ∙ f.found })
  later o rows k l not (inr m) = inr (record { absent = absent_more o rows k not m.absent; missed = l ∙ m.missed })

  at_head : (b : Bool) (r : Record K V) (rows : List (Option (Record K V))) (k : K) → same_key bytes r.key k ≡ b → Found rows k ⊎ Missed rows k → Found (Some r ∷ rows) k ⊎ Missed (Some r ∷ rows) k
  unfolding lookup
  at_head true r rows k e rest =
      inl (record { r = r; at = 0; here = refl; own = same_is bytes apart r.key k e; found = ap (λ b. cond b (Some r.value) (lookup bytes rows k)) e })
  at_head false r rows k e rest =
      later (Some r) rows k (ap (λ b. cond b (Some r.value) (lookup bytes rows k)) e)
      (λ s is own. differ_from bytes r.key k e (ap (λ x. x.key) (some_one r s is) ∙ own)) rest

  -- a key is found at a place, or at none
  pub either : (rows : List (Option (Record K V))) (k : K) → Found rows k ⊎ Missed rows k
  unfolding lookup
  either [] k = inr (record { absent = λ i r e own. none_some r e; missed = refl })
  either (None ∷ rows) k = later None rows k refl (λ r e own. none_some r e) (either rows k)
  either (Some r ∷ rows) k = at_head (same_key bytes r.key k) r rows k refl (either rows k)

  -- the row of the only place where a key can stand
  pub lookup_only : (rows : List (Option (Record K V))) (p : ℕ) (k : K) → Only rows p k → Of (get_or rows p None) k → lookup bytes rows k ≡ record_value (get_or rows p None)
  lookup_only rows p k only own = by_cases (either rows k)
    where
      empty : (o : Option (Record K V)) → o ≡ get_or rows p None → Of o k → Absent rows k → None ≡ record_value o
      empty None e of none = refl
      empty (Some r) e of none = absurd (none p r (sym e) (of r refl))

      by_cases : Found rows k ⊎ Missed rows k → lookup bytes rows k ≡ record_value (get_or rows p None)
      by_cases (inl f) = f.found ∙ ap record_value (sym f.here ∙ ap (λ n. get_or rows n None) (only f.at f.r f.here f.own))
      by_cases (inr m) = m.missed ∙ empty (get_or rows p None) refl own m.absent

  pub lookup_held : (rows : List (Option (Record K V))) (p : ℕ) (s : Record K V) → Apart rows → get_or rows p None ≡ Some s → lookup bytes rows s.key ≡ Some s.value
  lookup_held rows p s a e = lookup_only rows p s.key (only_held rows p s a e) (λ r h. ap (λ x. x.key) (some_one r s (sym h ∙ e))) ∙ ap record_value e

  pub lookup_absent : (rows : List (Option (Record K V))) (k : K) → Absent rows k → lookup bytes rows k ≡ None
  lookup_absent rows k none = by_cases (either rows k)
    where
      by_cases : Found rows k ⊎ Missed rows k → lookup bytes rows k ≡ None
      by_cases (inl f) = absurd (none f.at f.r f.here f.own)
      by_cases (inr m) = m.missed

  pub absent_lookup : (rows : List (Option (Record K V))) (k : K) → lookup bytes rows k ≡ None → Absent rows k
  absent_lookup rows k none = by_cases (either rows k)
    where
      by_cases : Found rows k ⊎ Missed rows k → Absent rows k
      by_cases (inl f) = none_some f.r.value (sym none ∙ f.found)
      by_cases (inr m) = m.absent

-- places that hold no record hold no key
pub keys_none : (K V : Type 0) (n : ℕ) → keys_of {K = K} {V = V} (replicate n None) ≡ []
unfolding keys_of
keys_none K V zero = refl
keys_none K V (suc n) = keys_none K V n

pub lookup_none : {K : Type 0} (V : Type 0) (bytes : K → List ℕ) (n : ℕ) (k : K) → lookup {V = V} bytes (replicate n None) k ≡ None
unfolding lookup
lookup_none V bytes zero k = refl
lookup_none V bytes (suc n) k = lookup_none V bytes n k
