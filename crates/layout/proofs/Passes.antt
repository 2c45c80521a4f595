-- One pass over fingerprints in rising order: what each of them adds to the slots.
use Rattle.std.proofs.Common.{◌≡◌, ℕ, suc, ◌+◌, ◌-◌, ◌<◌, ◌≤◌, cond, not, eqb, ltb, leb, ◌≢◌, List, [], ◌∷◌, length, get_or, take, drop, sym, refl, ap, ◌∙◌, subst, ⊎_elim, arith}
use Rattle.std.specs.List.{AllByRecursion as Every}
use Rattle.std.proofs.lemmas.List.{drop_more, drop_all, take-append-drop, append-nil, get_or-take, get_or-drop, length-take, length-drop}
use Rattle.std.proofs.ByRecursion.{All-from_get_or}
use Rattle.std.proofs.lemmas.List.Filters.{length-filter_more}
use Rattle.std.proofs.lemmas.Bool.{cases_lt, cases_eq, cases_order, cond-true, cond-false, eq-eqb, ne_eqb, lt-ltb, le-ltb, le-leb, lt-leb}
use Rattle.layout.specs.Rule.{one_if, quotient, Sorted, Entry, laid, reading_at, others, runend_at, offset_at, many, many_from, occupied_at, Roomy}
use Rattle.layout.specs.Places.{slot_after, next_of, slot_of}
use Rattle.layout.proofs.Splits.{quotient_mono, upper}
use Rattle.layout.proofs.Bridge.{after_mono, after_append, after_more, at_skip, at_under, late}
use Rattle.layout.proofs.Bounds.{rises}
use Rattle.layout.proofs.Rooms.{room_load_law, room_after}

-- A row that is `full` below n and 0 from there on, after a write of v at s: it is `full` below s + 1, if `full` has v at s and is 0 between.
pub advance : (full f g : ℕ → ℕ) (n s v : ℕ) → n ≤ s → full s ≡ v → ((k : ℕ) → n ≤ k → k < s → full k ≡ 0)
    → ((k : ℕ) → f k ≡ cond (ltb k n) (full k) 0) → ((k : ℕ) → g k ≡ cond (eqb k s) v (f k))
    → (k : ℕ) → g k ≡ cond (ltb k (suc s)) (full k) 0
advance full f g n s v l here gap old new k =
    ⊎_elim
    (λ (e : k ≡ s). new k ∙ cond-true (eqb k s) v (f k) (eq-eqb k s e) ∙ sym here ∙ ap full (sym e) ∙ sym (cond-true (ltb k (suc s)) (full k) 0 (lt-ltb k (suc s) (omega arith))))
    (λ o. ⊎_elim
    (λ (g : k < s). new k ∙ cond-false (eqb k s) v (f k) (ne_eqb k s (λ e. omega arith)) ∙ old k
    ∙ ⊎_elim (λ (h : k < n). cond-true (ltb k n) (full k) 0 (lt-ltb k n h))
    (λ (h : n ≤ k). cond-false (ltb k n) (full k) 0 (le-ltb k n h) ∙ sym (gap k h g)) (cases_lt k n)
    ∙ sym (cond-true (ltb k (suc s)) (full k) 0 (lt-ltb k (suc s) (omega arith))))
    (λ (g : s < k). new k ∙ cond-false (eqb k s) v (f k) (ne_eqb k s (λ e. omega arith)) ∙ old k ∙ cond-false (ltb k n) (full k) 0 (le-ltb k n (omega arith))
    ∙ sym (cond-false (ltb k (suc s)) (full k) 0 (le-ltb k (suc s) (omega arith)))) o)
    (cases_order k s)

-- such a row, where `full` is 0 from n on
pub advanced : (full f : ℕ → ℕ) (n : ℕ) → ((k : ℕ) → n ≤ k → full k ≡ 0) → ((k : ℕ) → f k ≡ cond (ltb k n) (full k) 0) → (k : ℕ) → f k ≡ full k
advanced full f n past h k =
    h k ∙ ⊎_elim (λ (l : k < n). cond-true (ltb k n) (full k) 0 (lt-ltb k n l)) (λ (l : n ≤ k). cond-false (ltb k n) (full k) 0 (le-ltb k n l) ∙ sym (past k l)) (cases_lt k n)

pub advance_none : (full f : ℕ → ℕ) → ((k : ℕ) → f k ≡ 0) → (k : ℕ) → f k ≡ cond (ltb k 0) (full k) 0
advance_none full f h k = h k ∙ sym (cond-false (ltb k 0) (full k) 0 (le-ltb k 0 (omega arith)))

module _ (r : ℕ) (ps : List ℕ) where
  module _ {X : Type 0} (f : ℕ → List Entry → X) (d : X) where
    rest : (i k : ℕ) → i < length ps → next_of r ps i ≤ k → reading_at f d (laid r 0 ps) k ≡ reading_at f d (laid r (next_of r ps i) (get_or ps i 0 ∷ drop (i + 1) ps)) k
    rest i k l g =
        ap (λ xs. reading_at f d (laid r 0 xs) k) (sym (take-append-drop i ps)) ∙ at_skip r f d 0 (take i ps) (drop i ps) k g
        ∙ ap (λ xs. reading_at f d (laid r (next_of r ps i) xs) k) (drop_more ps i 0 l)

    pub at_slot : (i : ℕ) → i < length ps → reading_at f d (laid r 0 ps) (slot_of r ps i) ≡ f (get_or ps i 0) (laid r (suc (slot_of r ps i)) (drop (i + 1) ps))
    unfolding reading_at laid
    at_slot i l = rest i (slot_of r ps i) l (omega arith) ∙ cond-true (eqb (slot_of r ps i) (slot_of r ps i)) _ _ (eq-eqb (slot_of r ps i) (slot_of r ps i) refl)

    pub at_gap : (i k : ℕ) → i < length ps → next_of r ps i ≤ k → k < slot_of r ps i → reading_at f d (laid r 0 ps) k ≡ d
    unfolding reading_at laid
    at_gap i k l g h =
        rest i k l g ∙ cond-false (eqb k (slot_of r ps i)) _ _ (ne_eqb k (slot_of r ps i) (λ e. omega arith)) ∙ at_under r f d (suc (slot_of r ps i)) (drop (i + 1) ps) k (omega arith)

    pub at_end : (k : ℕ) → slot_after r 0 ps ≤ k → reading_at f d (laid r 0 ps) k ≡ d
    unfolding reading_at laid
    at_end k g = ap (λ xs. reading_at f d (laid r 0 xs) k) (sym (append-nil ps)) ∙ at_skip r f d 0 ps [] k g

  -- the i-th ends its run if it is the last or the next has another quotient
  pub ends_last : (i : ℕ) → i < length ps → length ps ≤ i + 1 → runend_at r (laid r 0 ps) (slot_of r ps i) ≡ 1
  unfolding others laid
  ends_last i l g =
      at_slot (λ p later. one_if (others r (quotient r p) later)) 0 i l
      ∙ ap (λ xs. one_if (others r (quotient r (get_or ps i 0)) (laid r (suc (slot_of r ps i)) xs))) (drop_all (i + 1) ps g)

  pub ends_next : (i : ℕ) → i + 1 < length ps → runend_at r (laid r 0 ps) (slot_of r ps i) ≡ one_if (not (eqb (quotient r (get_or ps (i + 1) 0)) (quotient r (get_or ps i 0))))
  unfolding others laid
  ends_next i l =
      at_slot (λ p later. one_if (others r (quotient r p) later)) 0 i (omega arith)
      ∙ ap (λ xs. one_if (others r (quotient r (get_or ps i 0)) (laid r (suc (slot_of r ps i)) xs))) (drop_more ps (i + 1) 0 l)

  -- its quotient is occupied
  pub occupied_more : (i : ℕ) → i < length ps → (k : ℕ) → occupied_at r (take (i + 1) ps) k ≡ cond (eqb k (quotient r (get_or ps i 0))) 1 (occupied_at r (take i ps) k)
  occupied_more i l k =
      let c : ℕ = quotient r (get_or ps i 0) in
      let more = length-filter_more (λ p. eqb (quotient r p) k) ps i 0 l in
      ⊎_elim
      (λ (e : k ≡ c).
      let one : one_if (eqb c k) ≡ 1 = cond-true (eqb c k) 1 0 (eq-eqb c k (sym e)) in
      cond-true (ltb 0 (many r (take (i + 1) ps) k)) 1 0 (lt-ltb 0 (many r (take (i + 1) ps) k) (omega (arith, more)))
      ∙ sym (cond-true (eqb k c) 1 (occupied_at r (take i ps) k) (eq-eqb k c e)))
      (λ (e : k ≢ c).
      let none : one_if (eqb c k) ≡ 0 = cond-false (eqb c k) 1 0 (ne_eqb c k (λ z. e (sym z))) in
      ap (λ n. one_if (ltb 0 n)) (omega (arith, more)) ∙ sym (cond-false (eqb k c) 1 (occupied_at r (take i ps) k) (ne_eqb k c e)))
      (cases_eq k c)

  -- the offset at x, where the first i are those with a quotient below x
  pub offset_cut : Sorted ps → (i x : ℕ) → i ≤ length ps → ((k : ℕ) → k < i → quotient r (get_or ps k 0) < x) → (i < length ps → x ≤ quotient r (get_or ps i 0))
      → offset_at r (laid r 0 ps) x ≡ next_of r ps i - x
  offset_cut s i x l low high =
      ap (λ xs. offset_at r (laid r 0 xs) x) (sym (take-append-drop i ps))
      ∙ (let cut = late r x 0 (take i ps) (drop i ps)
      (All-from_get_or (λ p. quotient r p < x) (take i ps) 0 (λ k g. subst (λ p. quotient r p < x) (sym (front k g)) (low k (short k g))))
      (All-from_get_or (λ p. x ≤ quotient r p) (drop i ps) 0 (λ k g. subst (λ p. x ≤ quotient r p) (sym (get_or-drop i ps k 0)) (late_ones k g))) in
      omega (arith, cut))
    where
      short : (k : ℕ) → k < length (take i ps) → k < i
      short k g = omega (arith, length-take i ps)

      front : (k : ℕ) → k < length (take i ps) → get_or (take i ps) k 0 ≡ get_or ps k 0
      front k g = get_or-take i ps k 0 (short k g)

      late_ones : (k : ℕ) → k < length (drop i ps) → x ≤ quotient r (get_or ps (i + k) 0)
      late_ones k g =
          let in-range : i + k < length ps = omega (arith, length-drop i ps) in
          omega (arith, high (omega arith), quotient_mono r (get_or ps i 0) (get_or ps (i + k) 0) (rises ps s i (i + k) (omega arith) in-range))

-- with room for all, each quotient is below the slots
pub quotients_below : (slots r : ℕ) (ps : List ℕ) → Sorted ps → Roomy slots r ps → Every (λ p. quotient r p < slots) ps
quotients_below slots r ps s room = none ps ((room_load_law slots r ps s).0 room).1
  where
    none : (qs : List ℕ) → many_from r qs slots ≡ 0 → Every (λ p. quotient r p < slots) qs
    none [] e = tt
    none (q ∷ qs) e = ⊎_elim
        (λ (l : quotient r q < slots). (l, none qs (ap length (sym (cond-false (leb slots (quotient r q)) (q ∷ upper r qs slots) (upper r qs slots) (lt-leb slots (quotient r q) l))) ∙ e)))
        (λ (l : slots ≤ quotient r q). absurd (omega (arith, ap length (sym (cond-true (leb slots (quotient r q)) (q ∷ upper r qs slots) (upper r qs slots) (le-leb slots (quotient r q) l))) ∙ e)))
        (cases_lt (quotient r q) slots)

-- the slot after some of them is not past the slot after all
pub next_below : (r : ℕ) (ps : List ℕ) (i : ℕ) → next_of r ps i ≤ slot_after r 0 ps
next_below r ps i =
    let e = ap (slot_after r 0) (take-append-drop i ps) in
    omega (arith, after_append r 0 (take i ps) (drop i ps), after_mono r (next_of r ps i) (drop i ps))

-- with room for all, the slot of each and its quotient lie below the slots
pub slot_below : (slots r : ℕ) (ps : List ℕ) → Sorted ps → Roomy slots r ps → (i : ℕ) → i < length ps → slot_of r ps i < slots
slot_below slots r ps s room i l =
    omega (arith, after_more r ps i l, next_below r ps (i + 1), (room_after slots r ps s).0 room)
