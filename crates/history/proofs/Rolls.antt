-- The keys of a table, and their fingerprints, after a set or a removal.
use Rattle.std.proofs.Common.{◌≡◌, ℕ, suc, ◌+◌, ◌<◌, ◌≤◌, Bool, true, false, cond, ◌⊎◌, List, [], ◌∷◌, ◌++◌, map, length, get_or, take, drop, is_some, Some, None, Option, sym, refl, ap, ◌∙◌, subst, inl, inr, arith}
use Rattle.std.proofs.lemmas.List.{take_more, take-append-drop, map-append}
use Rattle.std.proofs.lemmas.Bool.{cases_lt}
use Rattle.kinds.specs.Keys.{same_key}
use Rattle.layout.specs.Rule.{one_if}
use Rattle.tables.specs.Rows.{lookup, record_count, keys_of, Apart}
use Rattle.tables.specs.Meaning.{Meaning, Revalued}
use Rattle.tables.specs.declared.record.Record.{Record}
use Rattle.history.specs.History.{times, Current}
use Rattle.history.proofs.Entries.{Alike}
use Rattle.tables.proofs.Counts.{count_cons}
use Rattle.tables.proofs.Options.{same_is}
use Rattle.history.proofs.Keys.{times_cons, numbers_same}

pub length_keys : {K V : Type 0} (rows : List (Option (Record K V))) → length (keys_of rows) ≡ record_count rows
unfolding keys_of
length_keys [] = refl
length_keys {K} {V} (None ∷ rows) = omega (arith, length_keys rows, count_cons {R = Record K V} None rows)
length_keys (Some r ∷ rows) = omega (arith, length_keys rows, count_cons (Some r) rows)

module _ {K V : Type 0} (bytes : K → List ℕ) (apart : (a b : K) → bytes a ≡ bytes b → a ≡ b) where
  -- a place that holds key k
  record Stands (rows : List (Option (Record K V))) (k : K) : Type 0 where
    at : ℕ
    r : Record K V
    here : get_or rows at None ≡ Some r
    own : r.key ≡ k

  stands_later : (o : Option (Record K V)) (rows : List (Option (Record K V))) (k : K) → Stands rows k → Stands (o ∷ rows) k
  stands_later o rows k s = record { at = suc s.at; r = s.r; here = s.here; own = s.own }

  stands_case : (b : Bool) (r : Record K V) (rows : List (Option (Record K V))) (k : K) → same_key bytes r.key k ≡ b → (0 < times bytes k (keys_of rows) → Stands rows k)
      → 0 < one_if b + times bytes k (keys_of rows) → Stands (Some r ∷ rows) k
  stands_case true r rows k e rest h = record { at = 0; r = r; here = refl; own = same_is bytes apart r.key k e }
  stands_case false r rows k e rest h = stands_later (Some r) rows k (rest (omega arith))

  -- a key that is counted stands somewhere
  times_stands : (rows : List (Option (Record K V))) (k : K) → 0 < times bytes k (keys_of rows) → Stands rows k
  unfolding keys_of
  times_stands [] k h = absurd (omega arith)
  times_stands (None ∷ rows) k h = stands_later None rows k (times_stands rows k h)
  times_stands (Some r ∷ rows) k h = stands_case (same_key bytes r.key k) r rows k refl (times_stands rows k) (subst (λ n. 0 < n) (times_cons bytes apart k r.key (keys_of rows)) h)

  apart_rest : (o : Option (Record K V)) (rows : List (Option (Record K V))) → Apart (o ∷ rows) → Apart rows
  apart_rest o rows a t =
      let z : suc t.i ≡ suc t.j = a (record { i = suc t.i; j = suc t.j; r = t.r; s = t.s; first = t.first; second = t.second; same = t.same }) in omega arith

  current_case : (b : Bool) (r : Record K V) (rows : List (Option (Record K V))) (k : K) → Apart (Some r ∷ rows) → times bytes k (keys_of rows) ≡ one_if (is_some (lookup bytes rows k))
      → same_key bytes r.key k ≡ b → one_if b + times bytes k (keys_of rows) ≡ one_if (is_some (cond b (Some r.value) (lookup bytes rows k)))
  current_case false r rows k a rest e = omega arith
  current_case true r rows k a rest e = by_cases (cases_lt 0 (times bytes k (keys_of rows)))
    where
      by_cases : (0 < times bytes k (keys_of rows)) ⊎ (times bytes k (keys_of rows) ≤ 0) → 1 + times bytes k (keys_of rows) ≡ 1
      by_cases (inl h) =
          let s = times_stands rows k h in
          let z : 0 ≡ suc s.at = a (record { i = 0; j = suc s.at; r = r; s = s.r; first = refl; second = s.here; same = same_is bytes apart r.key k e ∙ sym s.own }) in
          absurd (omega arith)
      by_cases (inr h) = omega arith

  -- the keys of a table are the current ones, by what it holds
  pub current_keys : (rows : List (Option (Record K V))) → Apart rows → Current bytes (lookup bytes rows) (keys_of rows)
  unfolding keys_of lookup
  current_keys [] a k = refl
  current_keys (None ∷ rows) a k = current_keys rows (apart_rest None rows a) k
  current_keys (Some r ∷ rows) a k =
      times_cons bytes apart k r.key (keys_of rows)
      ∙ current_case (same_key bytes r.key k) r rows k a (current_keys rows (apart_rest (Some r) rows a) k) refl

  -- one key gets another value, or a value, or none
  module _ (number : K → ℕ) (m n : Meaning K V) (a : Apart m.rows) (b : Apart n.rows) (key : K) where
    abbrev had : K → Option V
    had = lookup bytes m.rows

    change_case : (s : Bool) (k : K) (v : V) → same_key bytes key k ≡ s → is_some (had key) ≡ true → is_some (cond s (Some v) (had k)) ≡ is_some (had k)
    change_case true k v e h = sym h ∙ ap (λ q. is_some (had q)) (same_is bytes apart key k e)
    change_case false k v e h = refl

    pub numbers_changed : (v : V) → is_some (had key) ≡ true → Revalued bytes m n key (Some v) → Alike (map number (keys_of m.rows)) (map number (keys_of n.rows))
    numbers_changed v h to =
        numbers_same bytes apart number (keys_of m.rows) (keys_of n.rows)
        (λ k. current_keys m.rows a k ∙ ap one_if (sym (ap is_some (to k) ∙ change_case (same_key bytes key k) k v refl h)) ∙ sym (current_keys n.rows b k))

    new_case : (s : Bool) (k : K) (v : V) → same_key bytes key k ≡ s → is_some (had key) ≡ false → one_if (is_some (cond s (Some v) (had k))) ≡ one_if s + one_if (is_some (had k))
    new_case true k v e h = sym (ap (λ x. 1 + one_if x) (ap (λ q. is_some (had q)) (sym (same_is bytes apart key k e)) ∙ h))
    new_case false k v e h = omega arith

    pub numbers_new : (v : V) → is_some (had key) ≡ false → Revalued bytes m n key (Some v) → Alike (number key ∷ map number (keys_of m.rows)) (map number (keys_of n.rows))
    numbers_new v h to =
        numbers_same bytes apart number (key ∷ keys_of m.rows) (keys_of n.rows)
        (λ k. let p = current_keys m.rows a k in
        let q : times bytes k (keys_of n.rows) ≡ one_if (is_some (cond (same_key bytes key k) (Some v) (had k))) = current_keys n.rows b k ∙ ap (λ o. one_if (is_some o)) (to k) in
        let c = new_case (same_key bytes key k) k v refl h in
        let d = times_cons bytes apart k key (keys_of m.rows) in
        omega arith)

    drop_case : (s : Bool) (k : K) → same_key bytes key k ≡ s → is_some (had key) ≡ true → one_if s + one_if (is_some (cond {A = Option V} s None (had k))) ≡ one_if (is_some (had k))
    drop_case true k e h = ap one_if (sym h ∙ ap (λ q. is_some (had q)) (same_is bytes apart key k e))
    drop_case false k e h = omega arith

    pub numbers_dropped : is_some (had key) ≡ true → Revalued bytes m n key None → Alike (number key ∷ map number (keys_of n.rows)) (map number (keys_of m.rows))
    numbers_dropped h to =
        numbers_same bytes apart number (key ∷ keys_of n.rows) (keys_of m.rows)
        (λ k. let p = current_keys m.rows a k in
        let q : times bytes k (keys_of n.rows) ≡ one_if (is_some (cond {A = Option V} (same_key bytes key k) None (had k))) = current_keys n.rows b k ∙ ap (λ o. one_if (is_some o)) (to k) in
        let c = drop_case (same_key bytes key k) k refl h in
        let d = times_cons bytes apart k key (keys_of n.rows) in
        omega arith)

-- ---- the keys of the first places

keys_append : {K V : Type 0} (xs ys : List (Option (Record K V))) → keys_of (xs ++ ys) ≡ keys_of xs ++ keys_of ys
unfolding keys_of
keys_append [] ys = refl
keys_append (None ∷ xs) ys = keys_append xs ys
keys_append (Some r ∷ xs) ys = ap (λ l. r.key ∷ l) (keys_append xs ys)

module _ {K V : Type 0} (number : K → ℕ) (rows : List (Option (Record K V))) where
  numbers_more : (i : ℕ) (o : Option (Record K V)) → i < length rows → o ≡ get_or rows i None
      → map number (keys_of (take (i + 1) rows)) ≡ map number (keys_of (take i rows)) ++ map number (keys_of (o ∷ []))
  numbers_more i o h e =
      ap (λ l. map number (keys_of l)) (take_more rows i None h ∙ ap (λ x. take i rows ++ x ∷ []) (sym e))
      ∙ ap (map number) (keys_append (take i rows) (o ∷ [])) ∙ map-append number (keys_of (take i rows)) (keys_of (o ∷ []))

  -- a free place adds nothing
  pub numbers_free : (i : ℕ) → i < length rows → None ≡ get_or rows i None → map number (keys_of (take (i + 1) rows)) ≡ map number (keys_of (take i rows)) ++ []
  unfolding keys_of
  numbers_free i h e = numbers_more i None h e

  -- a record adds its key's
  pub numbers_record : (i : ℕ) (r : Record K V) → i < length rows → Some r ≡ get_or rows i None
      → map number (keys_of (take (i + 1) rows)) ≡ map number (keys_of (take i rows)) ++ (number r.key ∷ [])
  unfolding keys_of
  numbers_record i r h e = numbers_more i (Some r) h e

  -- those of the first places, and those of the rest
  pub numbers_split : (i : ℕ) → map number (keys_of rows) ≡ map number (keys_of (take i rows)) ++ map number (keys_of (drop i rows))
  numbers_split i =
      ap (λ l. map number (keys_of l)) (sym (take-append-drop i rows)) ∙ ap (map number) (keys_append (take i rows) (drop i rows))
      ∙ map-append number (keys_of (take i rows)) (keys_of (drop i rows))
