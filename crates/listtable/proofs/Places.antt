-- The places of a list: which record stands where, and what a write makes of them.
use Rattle.std.proofs.Common.{◌≡◌, ℕ, zero, suc, ◌+◌, ◌-◌, ◌<◌, ◌≤◌, ◌⊎◌, List, map, length, get_or, take, drop, set, slice_get, replicate, Some, None, Option, Bor, sym, refl, ap, ◌∙◌, inl, inr, arith}
use Rattle.std.proofs.lemmas.List.{length-map, length-take-le, length-set, get_or_append_left, get_or-append_right, get_or-map, get_or-take, get_or-set_same, get_or-set_other, ext_get_or, drop-set-lt}
use Rattle.std.specs.Slice.{IsItemAt}
use Rattle.std.specs.Option.{option_copied}
use Rattle.std.proofs.lemmas.Option.{slice_get_cases, slice_get_past, slice_get_read}
use Rattle.std.proofs.lemmas.Bool.{cases_eq, cases_lt, ltb-true}
use Rattle.listtable.specs.Lists.{list_capacity, places_of}
use Rattle.listtable.specs.Propers.{length_places}

-- a held place
pub at_held : {R : Type 0} (held : ℕ) (rs : List R) (i : ℕ) (d : R) → held ≤ list_capacity (length rs) → i < held → get_or (places_of held rs) i None ≡ Some (get_or rs i d)
unfolding places_of
at_held held rs i d h b =
    let t = length-take-le held rs (omega arith) in
    let n : i < length (take held rs) = omega arith in
    let m : i < length (map Some (take held rs)) = omega (arith, length-map (take held rs) Some) in
    get_or_append_left (map Some (take held rs)) (replicate (list_capacity (length rs) - held) None) None i m
    ∙ get_or-map Some (take held rs) i d None n
    ∙ ap Some (get_or-take held rs i d b)

-- the same of a record that was read
pub at_read : {R : Type 0} (held : ℕ) (rs : List R) (i : ℕ) (x : R) → held ≤ list_capacity (length rs) → i < held → x ≡ get_or rs i x → get_or (places_of held rs) i None ≡ Some x
at_read held rs i x h b is = at_held held rs i x h b ∙ ap Some (sym is)

-- a free place
free_row : (R : Type 0) (n i : ℕ) → get_or {A = Option R} (replicate n None) i None ≡ None
free_row R zero i = refl
free_row R (suc n) zero = refl
free_row R (suc n) (suc i) = free_row R n i

pub at_free : {R : Type 0} (held : ℕ) (rs : List R) (i : ℕ) → held ≤ list_capacity (length rs) → held ≤ i → get_or (places_of held rs) i None ≡ None
unfolding places_of
at_free {R} held rs i h b =
    let t = length-take-le held rs (omega arith) in
    let m : length (map Some (take held rs)) ≡ held = omega (arith, length-map (take held rs) Some) in
    get_or-append_right (map Some (take held rs)) (replicate (list_capacity (length rs) - held) None) held i None m b ∙ free_row R (list_capacity (length rs) - held) (i - held)

-- a place as the records that are held have it
pub held_row : {R : Type 0} (held : ℕ) (rs : List R) (i : ℕ) → held ≤ list_capacity (length rs) → get_or (places_of held rs) i None ≡ slice_get (take held rs) i
held_row {R} held rs i h = by_cases (slice_get_cases (take held rs) i).1
  where
    by_cases : ((x : R) × (i < length (take held rs)) × (slice_get (take held rs) i ≡ Some x) × (get_or (take held rs) i x ≡ x)) ⊎ ((length (take held rs) ≤ i) × (slice_get (take held rs) i ≡ None)) → get_or (places_of held rs) i None ≡ slice_get (take held rs) i
    by_cases (inl (x, b, here, at)) =
        let l = length-take-le held rs (omega arith) in
        let k : i < held = omega arith in
        at_held held rs i x h k ∙ ap Some (sym (get_or-take held rs i x k) ∙ at) ∙ sym here
    by_cases (inr (past, none)) = let l = length-take-le held rs (omega arith) in at_free held rs i h (omega arith) ∙ sym none

pub none_held : {R : Type 0} (rs : List R) → places_of 0 rs ≡ replicate (list_capacity (length rs)) None
unfolding places_of
none_held rs = ap (λ n. replicate n None) (omega arith)

pub same_length : {R : Type 0} (rs : List R) (i : ℕ) (r : R) → list_capacity (length (set rs i r)) ≡ list_capacity (length rs)
same_length rs i r = ap list_capacity (length-set rs i r)

-- a held record overwritten
pub places_write : {R : Type 0} (held : ℕ) (rs : List R) (p : ℕ) (r : R) → held ≤ list_capacity (length rs) → p < held → places_of held (set rs p r) ≡ set (places_of held rs) p (Some r)
places_write held rs p r h b =
    let e = same_length rs p r in
    let h' : held ≤ list_capacity (length (set rs p r)) = omega arith in
    let l = length_places held rs h in
    let l' = length_places held (set rs p r) h' in
    ext_get_or None (places_of held (set rs p r)) (set (places_of held rs) p (Some r)) (omega (arith, length-set (places_of held rs) p (Some r)))
    (λ i k. by_cases h' i (cases_lt i held) (cases_eq i p))
  where
    by_cases : held ≤ list_capacity (length (set rs p r)) → (i : ℕ) → (i < held) ⊎ (held ≤ i) → (i ≡ p) ⊎ (i ≡ p → ⊥) → get_or (places_of held (set rs p r)) i None ≡ get_or (set (places_of held rs) p (Some r)) i None
    by_cases h' i (inl k) (inl y) =
        let l = length_places held rs h in
        ap (λ n. get_or (places_of held (set rs p r)) n None) y ∙ at_held held (set rs p r) p r h' b ∙ ap Some (get_or-set_same rs p r r (omega arith))
        ∙ sym (ap (λ n. get_or (set (places_of held rs) p (Some r)) n None) y ∙ get_or-set_same (places_of held rs) p (Some r) None (omega arith))
    by_cases h' i (inl k) (inr y) =
        at_held held (set rs p r) i r h' k ∙ ap Some (get_or-set_other rs p i r r y)
        ∙ sym (get_or-set_other (places_of held rs) p i (Some r) None y ∙ at_held held rs i r h k)
    by_cases h' i (inr k) (inl y) = absurd (omega arith)
    by_cases h' i (inr k) (inr y) = at_free held (set rs p r) i h' k ∙ sym (get_or-set_other (places_of held rs) p i (Some r) None y ∙ at_free held rs i h k)

-- a record put after those that are held
pub places_append : {R : Type 0} (held : ℕ) (rs : List R) (r : R) → held < list_capacity (length rs) → places_of (held + 1) (set rs held r) ≡ set (places_of held rs) held (Some r)
places_append held rs r h =
    let e = same_length rs held r in
    let h' : held + 1 ≤ list_capacity (length (set rs held r)) = omega arith in
    let l = length_places held rs (omega arith) in
    let l' = length_places (held + 1) (set rs held r) h' in
    ext_get_or None (places_of (held + 1) (set rs held r)) (set (places_of held rs) held (Some r)) (omega (arith, length-set (places_of held rs) held (Some r)))
    (λ i k. by_cases h' i (cases_lt i (held + 1)) (cases_eq i held))
  where
    by_cases : held + 1 ≤ list_capacity (length (set rs held r)) → (i : ℕ) → (i < held + 1) ⊎ (held + 1 ≤ i) → (i ≡ held) ⊎ (i ≡ held → ⊥) → get_or (places_of (held + 1) (set rs held r)) i None ≡ get_or (set (places_of held rs) held (Some r)) i None
    by_cases h' i (inl k) (inl y) =
        let l = length_places held rs (omega arith) in
        ap (λ n. get_or (places_of (held + 1) (set rs held r)) n None) y ∙ at_held (held + 1) (set rs held r) held r h' (omega arith) ∙ ap Some (get_or-set_same rs held r r (omega arith))
        ∙ sym (ap (λ n. get_or (set (places_of held rs) held (Some r)) n None) y ∙ get_or-set_same (places_of held rs) held (Some r) None (omega arith))
    by_cases h' i (inl k) (inr y) =
        at_held (held + 1) (set rs held r) i r h' k ∙ ap Some (get_or-set_other rs held i r r y)
        ∙ sym (get_or-set_other (places_of held rs) held i (Some r) None y ∙ at_held held rs i r (omega arith) (omega arith))
    by_cases h' i (inr k) (inl y) = absurd (omega arith)
    by_cases h' i (inr k) (inr y) = at_free (held + 1) (set rs held r) i h' k ∙ sym (get_or-set_other (places_of held rs) held i (Some r) None y ∙ at_free held rs i (omega arith) (omega arith))

-- one held less
pub places_fewer : {R : Type 0} (held : ℕ) (rs : List R) (d : R) → 0 < held → held ≤ list_capacity (length rs) → places_of (held - 1) rs ≡ set (places_of held rs) (held - 1) None
places_fewer held rs d some h =
    let l = length_places held rs h in
    let l' = length_places (held - 1) rs (omega arith) in
    ext_get_or None (places_of (held - 1) rs) (set (places_of held rs) (held - 1) None) (simp length-set (omega arith))
    (λ i k. by_cases i (cases_lt i (held - 1)) (cases_eq i (held - 1)))
  where
    by_cases : (i : ℕ) → (i < held - 1) ⊎ (held - 1 ≤ i) → (i ≡ held - 1) ⊎ (i ≡ held - 1 → ⊥) → get_or (places_of (held - 1) rs) i None ≡ get_or (set (places_of held rs) (held - 1) None) i None
    by_cases i (inl k) (inl y) = absurd (omega arith)
    by_cases i (inl k) (inr y) = at_held (held - 1) rs i d (omega arith) k ∙ sym (get_or-set_other (places_of held rs) (held - 1) i None None y ∙ at_held held rs i d h (omega arith))
    by_cases i (inr k) (inl y) =
        let l = length_places held rs h in
        at_free (held - 1) rs i (omega arith) k ∙ sym (ap (λ n. get_or (set (places_of held rs) (held - 1) None) n None) y ∙ get_or-set_same (places_of held rs) (held - 1) None None (omega arith))
    by_cases i (inr k) (inr y) = at_free (held - 1) rs i (omega arith) k ∙ sym (get_or-set_other (places_of held rs) (held - 1) i None None y ∙ at_free held rs i h (omega arith))

-- what a write below the capacity leaves
pub beyond_write : {R : Type 0} (rs : List R) (p : ℕ) (r : R) → p < list_capacity (length rs) → drop 65536 (set rs p r) ≡ drop 65536 rs
beyond_write rs p r b = drop-set-lt 65536 rs p r (omega arith)

-- what is read from a list at a place
pub item_copied : {R : Type 0} (rs : List R) (i : ℕ) (o : Option (Bor R)) → IsItemAt rs i o → option_copied o ≡ slice_get rs i
item_copied rs i (Some r) item = sym (slice_get_read rs (length rs) i r.now refl (ltb-true i (length rs) (sym item.0)) item.1)
item_copied rs i None item = sym (slice_get_past rs i item.3)
