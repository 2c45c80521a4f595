-- What is looked up after the records of a table have moved, and one key has changed.
use Rattle.std.proofs.Common.{◌≡◌, ℕ, ◌<◌, Bool, true, false, cond, ◌⊎◌, List, length, get_or, set, Some, None, Option, sym, refl, ap, ◌∙◌, subst, inl, inr}
use Rattle.std.proofs.lemmas.List.{get_or-set_same, get_or-set_other, length-set}
use Rattle.std.proofs.lemmas.Bool.{cases_eq}
use Rattle.kinds.specs.Keys.{same_key}
use Rattle.tables.specs.declared.record.Record.{Record}
use Rattle.tables.specs.Rows.{lookup, Apart}
use Rattle.tables.specs.Meaning.{Meaning, SameFrame}
use Rattle.tables.proofs.Options.{none_some, some_one, record_value, Of, same_is, differ_from}
use Rattle.tables.proofs.Lookups.{Stands, Absent, Only, Found, Missed, one_record, only_held, either, lookup_only, lookup_absent}

-- nothing changes
pub same_frame : {K V : Type 0} (m : Meaning K V) → SameFrame m m
same_frame m = record { admits = refl; capacity = refl; places = refl }

-- each record of the rows whose key is not k stands in the others too
abbrev pub Carried : {K V : Type 0} → List (Option (Record K V)) → List (Option (Record K V)) → K → Type 0
Carried {K} {V} rows others k = (i : ℕ) (r : Record K V) → (r.key ≡ k → ⊥) → get_or rows i None ≡ Some r → Stands others r

module _ {K V : Type 0} (bytes : K → List ℕ) (apart : (a b : K) → bytes a ≡ bytes b → a ≡ b) where
  -- where all records but those of k are carried over, both ways, every other key has the value that it had
  pub carried_lookup : (rows others : List (Option (Record K V))) (k q : K) → Apart others → Carried rows others k → Carried others rows k → (k ≡ q → ⊥) → lookup bytes others q ≡ lookup bytes rows q
  carried_lookup rows others k q a there back ne = by_cases (either bytes apart rows q) (either bytes apart others q)
    where
      off : (r : Record K V) → r.key ≡ q → r.key ≡ k → ⊥
      off r own e = ne (sym e ∙ own)

      by_cases : Found bytes apart rows q ⊎ Missed bytes apart rows q → Found bytes apart others q ⊎ Missed bytes apart others q → lookup bytes others q ≡ lookup bytes rows q
      by_cases (inl f) (inl g) =
          let s = there f.at f.r (off f.r f.own) f.here in
          let e : g.r ≡ f.r = one_record others g.r f.r a (record { at = g.at; here = g.here }) s (g.own ∙ sym f.own) in
          g.found ∙ ap (λ r. Some r.value) e ∙ sym f.found
      by_cases (inl f) (inr m) = let s = there f.at f.r (off f.r f.own) f.here in absurd (m.absent s.at f.r s.here f.own)
      by_cases (inr m) (inl g) = let s = back g.at g.r (off g.r g.own) g.here in absurd (m.absent s.at g.r s.here g.own)
      by_cases (inr m) (inr n) = n.missed ∙ sym m.missed

  -- the same with what key k itself has afterwards
  pub carried_revalued : (rows others : List (Option (Record K V))) (k : K) (w : Option V) → Apart others → Carried rows others k → Carried others rows k → lookup bytes others k ≡ w
      → (q : K) → lookup bytes others q ≡ cond (same_key bytes k q) w (lookup bytes rows q)
  carried_revalued rows others k w a there back e q = by_cases (same_key bytes k q) refl
    where
      by_cases : (b : Bool) → same_key bytes k q ≡ b → lookup bytes others q ≡ cond b w (lookup bytes rows q)
      by_cases true s = ap (lookup bytes others) (sym (same_is bytes apart k q s)) ∙ e
      by_cases false s = carried_lookup rows others k q a there back (differ_from bytes k q s)

-- one place written, where its old and its new row are of key k, and k stands nowhere else
module _ {K V : Type 0} (rows : List (Option (Record K V))) (p : ℕ) (k : K) (o : Option (Record K V)) (h : p < length rows) (only : Only rows p k) (own : Of (get_or rows p None) k) (new : Of o k) where
  off_place : (i : ℕ) (r : Record K V) → (i ≡ p → ⊥) → get_or (set rows p o) i None ≡ Some r → get_or rows i None ≡ Some r
  off_place i r ne e = sym (get_or-set_other rows p i o None ne) ∙ e

  at_place : (i : ℕ) (r : Record K V) → i ≡ p → get_or (set rows p o) i None ≡ Some r → o ≡ Some r
  at_place i r e g = sym (get_or-set_same rows p o None h) ∙ ap (λ n. get_or (set rows p o) n None) (sym e) ∙ g

  pub only_set : Only (set rows p o) p k
  only_set i r e is = by_cases (cases_eq i p)
    where
      by_cases : (i ≡ p) ⊎ (i ≡ p → ⊥) → i ≡ p
      by_cases (inl y) = y
      by_cases (inr ne) = only i r (off_place i r ne e) is

  pub apart_set : Apart rows → Apart (set rows p o)
  apart_set a t = by_cases (cases_eq t.i p) (cases_eq t.j p)
    where
      by_cases : (t.i ≡ p) ⊎ (t.i ≡ p → ⊥) → (t.j ≡ p) ⊎ (t.j ≡ p → ⊥) → t.i ≡ t.j
      by_cases (inl e) (inl f) = e ∙ sym f
      by_cases (inl e) (inr f) = absurd (f (only t.j t.s (off_place t.j t.s f t.second) (sym t.same ∙ new t.r (at_place t.i t.r e t.first))))
      by_cases (inr e) (inl f) = absurd (e (only t.i t.r (off_place t.i t.r e t.first) (t.same ∙ new t.s (at_place t.j t.s f t.second))))
      by_cases (inr e) (inr f) = a (record { i = t.i; j = t.j; r = t.r; s = t.s; first = off_place t.i t.r e t.first; second = off_place t.j t.s f t.second; same = t.same })

  carried_there : Carried rows (set rows p o) k
  carried_there i r ne e = by_cases (cases_eq i p)
    where
      by_cases : (i ≡ p) ⊎ (i ≡ p → ⊥) → Stands (set rows p o) r
      by_cases (inl y) = absurd (ne (own r (ap (λ n. get_or rows n None) (sym y) ∙ e)))
      by_cases (inr y) = record { at = i; here = get_or-set_other rows p i o None y ∙ e }

  carried_back : Carried (set rows p o) rows k
  carried_back i r ne e = by_cases (cases_eq i p)
    where
      by_cases : (i ≡ p) ⊎ (i ≡ p → ⊥) → Stands rows r
      by_cases (inl y) = absurd (ne (new r (at_place i r y e)))
      by_cases (inr y) = record { at = i; here = off_place i r y e }

  -- what is looked up then
  pub revalued_set : (bytes : K → List ℕ) → ((a b : K) → bytes a ≡ bytes b → a ≡ b) → Apart rows → (q : K) → lookup bytes (set rows p o) q ≡ cond (same_key bytes k q) (record_value o) (lookup bytes rows q)
  revalued_set bytes apart a =
      let same : get_or (set rows p o) p None ≡ o = get_or-set_same rows p o None h in
      carried_revalued bytes apart rows (set rows p o) k (record_value o) (apart_set a) carried_there carried_back
      (lookup_only bytes apart (set rows p o) p k only_set (subst (λ x. Of x k) (sym same) new) ∙ ap record_value same)

-- a record taken out at place p: the row of another place, the last one, comes to stand there, and the last one is freed
module _ {K V : Type 0} (rows : List (Option (Record K V))) (p last : ℕ) (s : Record K V) (h : p < length rows) (g : last < length rows) (here : get_or rows p None ≡ Some s) (a : Apart rows) where
  abbrev pub taken : List (Option (Record K V))
  taken = set (set rows p (get_or rows last None)) last None

  at_last : get_or taken last None ≡ None
  at_last = get_or-set_same (set rows p (get_or rows last None)) last None None (subst (λ n. last < n) (sym (length-set rows p (get_or rows last None))) g)

  off_last : (i : ℕ) → (i ≡ last → ⊥) → get_or taken i None ≡ get_or (set rows p (get_or rows last None)) i None
  off_last i ne = get_or-set_other (set rows p (get_or rows last None)) last i None None ne

  -- where a record of the new rows stood: at the last place, or where it stands
  record Origin (i : ℕ) (r : Record K V) : Type 0 where
    low : i ≡ last → ⊥
    place : ((i ≡ p) × (get_or rows last None ≡ Some r)) ⊎ ((i ≡ p → ⊥) × (get_or rows i None ≡ Some r))

  origin : (i : ℕ) (r : Record K V) → get_or taken i None ≡ Some r → Origin i r
  origin i r e = by_last (cases_eq i last)
    where
      by_place : (i ≡ last → ⊥) → (i ≡ p) ⊎ (i ≡ p → ⊥) → ((i ≡ p) × (get_or rows last None ≡ Some r)) ⊎ ((i ≡ p → ⊥) × (get_or rows i None ≡ Some r))
      by_place ne (inl y) = inl (y, sym (get_or-set_same rows p (get_or rows last None) None h) ∙ ap (λ n. get_or (set rows p (get_or rows last None)) n None) (sym y) ∙ sym (off_last i ne) ∙ e)
      by_place ne (inr y) = inr (y, sym (get_or-set_other rows p i (get_or rows last None) None y) ∙ sym (off_last i ne) ∙ e)

      by_last : (i ≡ last) ⊎ (i ≡ last → ⊥) → Origin i r
      by_last (inl y) = none_some r (sym at_last ∙ ap (λ n. get_or taken n None) (sym y) ∙ e)
      by_last (inr ne) = record { low = ne; place = by_place ne (cases_eq i p) }

  pub apart_taken : Apart taken
  apart_taken t = by_cases (origin t.i t.r t.first) (origin t.j t.s t.second)
    where
      by_cases : Origin t.i t.r → Origin t.j t.s → t.i ≡ t.j
      by_cases m n = by_places m.place n.place
        where
          by_places : ((t.i ≡ p) × (get_or rows last None ≡ Some t.r)) ⊎ ((t.i ≡ p → ⊥) × (get_or rows t.i None ≡ Some t.r))
              → ((t.j ≡ p) × (get_or rows last None ≡ Some t.s)) ⊎ ((t.j ≡ p → ⊥) × (get_or rows t.j None ≡ Some t.s)) → t.i ≡ t.j
          by_places (inl x) (inl y) = x.0 ∙ sym y.0
          by_places (inl x) (inr y) = absurd (n.low (sym (a (record { i = last; j = t.j; r = t.r; s = t.s; first = x.1; second = y.1; same = t.same }))))
          by_places (inr x) (inl y) = absurd (m.low (a (record { i = t.i; j = last; r = t.r; s = t.s; first = x.1; second = y.1; same = t.same })))
          by_places (inr x) (inr y) = a (record { i = t.i; j = t.j; r = t.r; s = t.s; first = x.1; second = y.1; same = t.same })

  taken_there : Carried rows taken s.key
  taken_there i r ne e = by_cases (cases_eq i p) (cases_eq i last)
    where
      by_cases : (i ≡ p) ⊎ (i ≡ p → ⊥) → (i ≡ last) ⊎ (i ≡ last → ⊥) → Stands taken r
      by_cases (inl y) z = absurd (ne (ap (λ x. x.key) (some_one r s (sym e ∙ ap (λ n. get_or rows n None) y ∙ here))))
      by_cases (inr y) (inl z) =
          record { at = p; here = off_last p (λ w. y (z ∙ sym w)) ∙ get_or-set_same rows p (get_or rows last None) None h ∙ ap (λ n. get_or rows n None) (sym z) ∙ e }
      by_cases (inr y) (inr z) = record { at = i; here = off_last i z ∙ get_or-set_other rows p i (get_or rows last None) None y ∙ e }

  taken_back : Carried taken rows s.key
  taken_back i r ne e = by_cases (origin i r e).place
    where
      by_cases : ((i ≡ p) × (get_or rows last None ≡ Some r)) ⊎ ((i ≡ p → ⊥) × (get_or rows i None ≡ Some r)) → Stands rows r
      by_cases (inl y) = record { at = last; here = y.1 }
      by_cases (inr y) = record { at = i; here = y.1 }

  absent_taken : Absent taken s.key
  absent_taken i r e own = by_cases (origin i r e)
    where
      by_cases : Origin i r → ⊥
      by_cases m = by_place m.place
        where
          by_place : ((i ≡ p) × (get_or rows last None ≡ Some r)) ⊎ ((i ≡ p → ⊥) × (get_or rows i None ≡ Some r)) → ⊥
          by_place (inl y) = m.low (y.0 ∙ sym (only_held rows p s a here last r y.1 own))
          by_place (inr y) = y.0 (only_held rows p s a here i r y.1 own)

  -- what is looked up then
  pub revalued_taken : (bytes : K → List ℕ) → ((x y : K) → bytes x ≡ bytes y → x ≡ y) → (q : K) → lookup bytes taken q ≡ cond (same_key bytes s.key q) None (lookup bytes rows q)
  revalued_taken bytes apart =
      carried_revalued bytes apart rows taken s.key None apart_taken taken_there taken_back (lookup_absent bytes apart taken s.key absent_taken)
