-- From the rule to runs at their starts.
use Rattle.std.proofs.Common.{◌≡◌, ℕ, zero, suc, ◌+◌, ◌-◌, ◌<◌, ◌≤◌, max, true, false, not, ◌&&◌, eqb, ltb, leb, ◌⊎◌, List, [], ◌∷◌, ◌++◌, map, length, get_or, take, drop, sym, refl, ap, ◌∙◌, subst, inl, inr, ⊎_elim, arith}
use Rattle.std.specs.List.{AllByRecursion as Every}
use Rattle.std.proofs.lemmas.List.{take_more, drop_more, drop_all, length-map}
use Rattle.std.proofs.ByRecursion.{All-get_or}
use Rattle.std.proofs.lemmas.Bool.{cases_lt, cond-true, cond-false, eq-eqb, ne_eqb, lt-ltb, le-ltb, le-leb, lt-leb, and_from, and_left, and_right}
use Rattle.layout.specs.Load.{load, start}
use Rattle.layout.specs.Rule.{one_if, quotient, remainder, Sorted, Entry, laid, reading_at, used_at, remainder_at, runend_at, others, quotient_run, many, offset_at}
use Rattle.layout.specs.Places.{slot_after}
use Rattle.layout.specs.Runs.{remainders, LayoutLaw, OffsetLaw}
use Rattle.layout.proofs.Loads.{load_step, load_none, start_step}
use Rattle.layout.proofs.Ranks.{bit_eq, bit_ne}
use Rattle.layout.proofs.Splits.{lower, upper, lower_step, upper_step, halves, run_all, upper_all, lower_all}

pub empty : {X : Type 0} (xs : List X) → length xs ≤ 0 → xs ≡ []
empty [] l = refl
empty (x ∷ xs) l = absurd (omega arith)

module _ (r : ℕ) where
  pub after_mono : (next : ℕ) (ps : List ℕ) → next ≤ slot_after r next ps
  after_mono next [] = omega arith
  after_mono next (p ∷ ps) = omega (arith, after_mono (suc (max (quotient r p) next)) ps)

  pub after_append : (next : ℕ) (a b : List ℕ) → slot_after r next (a ++ b) ≡ slot_after r (slot_after r next a) b
  after_append next [] b = refl
  after_append next (p ∷ a) b = after_append (suc (max (quotient r p) next)) a b

  -- one fingerprint more
  pub after_more : (ps : List ℕ) (i : ℕ) → i < length ps → slot_after r 0 (take (i + 1) ps) ≡ suc (max (quotient r (get_or ps i 0)) (slot_after r 0 (take i ps)))
  after_more ps i l = ap (slot_after r 0) (take_more ps i 0 l) ∙ after_append 0 (take i ps) (get_or ps i 0 ∷ [])

  -- the fingerprints of one quotient lie side by side
  after_run : (x next : ℕ) (ps : List ℕ) → Every (λ p. quotient r p ≡ x) ps → 0 < length ps → slot_after r next ps ≡ max x next + length ps
  after_run x next [] a l = absurd (omega arith)
  after_run x next (p ∷ []) (e, a) l = omega (arith, e)
  after_run x next (p ∷ q ∷ ps) (e, a) l = omega (arith, e, after_run x (suc (max (quotient r p) next)) (q ∷ ps) a (omega arith))

  after_none : (next : ℕ) (ps : List ℕ) → length ps ≤ 0 → slot_after r next ps ≡ next
  after_none next [] l = refl
  after_none next (p ∷ ps) l = absurd (omega arith)

  pub lower_none : (ps : List ℕ) → lower r ps 0 ≡ []
  lower_none [] = refl
  lower_none (p ∷ ps) = rw (le-ltb (quotient r p) 0 (omega arith)) (lower_none ps)

  pub starts : (ps : List ℕ) → Sorted ps → (x : ℕ) → max x (slot_after r 0 (lower r ps x)) ≡ start (many r ps) x
  starts ps s zero = omega (arith, ap (slot_after r 0) (lower_none ps), load_none (many r ps))
  starts ps s (suc x) =
      let ih = starts ps s x in
      let e : slot_after r 0 (lower r ps (suc x)) ≡ slot_after r (slot_after r 0 (lower r ps x)) (quotient_run r ps x) = ap (slot_after r 0) (lower_step r ps x s) ∙ after_append 0 (lower r ps x) (quotient_run r ps x) in
      ⊎_elim
      (λ (l : 0 < many r ps x). omega (arith, ih, e, load_step (many r ps) x, after_run x (slot_after r 0 (lower r ps x)) (quotient_run r ps x) (run_all r ps x) l))
      (λ (l : many r ps x ≤ 0). omega (arith, ih, e, load_step (many r ps) x, after_none (slot_after r 0 (lower r ps x)) (quotient_run r ps x) l))
      (cases_lt 0 (many r ps x))

  -- ---- what lies in one slot

  module _ {X : Type 0} (f : ℕ → List Entry → X) (d : X) where
    pub at_skip : (next : ℕ) (a b : List ℕ) (s : ℕ) → slot_after r next a ≤ s → reading_at f d (laid r next (a ++ b)) s ≡ reading_at f d (laid r (slot_after r next a) b) s
    unfolding reading_at laid
    at_skip next [] b s l = refl
    at_skip next (p ∷ a) b s l =
        let k : ℕ = max (quotient r p) next in
        cond-false (eqb s k) _ _ (ne_eqb s k (λ e. omega (arith, after_mono (suc k) a))) ∙ at_skip (suc k) a b s l

    -- below all places
    pub at_under : (next : ℕ) (b : List ℕ) (s : ℕ) → s < next → reading_at f d (laid r next b) s ≡ d
    unfolding reading_at laid
    at_under next [] s l = refl
    at_under next (p ∷ b) s l =
        let k : ℕ = max (quotient r p) next in
        cond-false (eqb s k) _ _ (ne_eqb s k (λ e. omega arith)) ∙ at_under (suc k) b s (omega arith)

    at_beyond : (next : ℕ) (b : List ℕ) (s : ℕ) → Every (λ p. s < quotient r p) b → reading_at f d (laid r next b) s ≡ d
    unfolding reading_at laid
    at_beyond next [] s a = refl
    at_beyond next (p ∷ b) s (l, a) =
        let k : ℕ = max (quotient r p) next in
        cond-false (eqb s k) _ _ (ne_eqb s k (λ e. omega arith)) ∙ at_beyond (suc k) b s a

    at_run : (x next : ℕ) (ps b : List ℕ) (j : ℕ) → Every (λ p. quotient r p ≡ x) ps → j < length ps
        → reading_at f d (laid r next (ps ++ b)) (max x next + j) ≡ f (get_or ps j 0) (laid r (suc (max x next + j)) (drop (suc j) ps ++ b))
    unfolding reading_at laid
    at_run x next [] b j a l = absurd (omega arith)
    at_run x next (p ∷ ps) b zero (e, a) l =
        let k : ℕ = max (quotient r p) next in
        let z : k ≡ max x next + 0 = omega arith in
        cond-true (eqb (max x next + 0) k) _ _ (eq-eqb (max x next + 0) k (sym z)) ∙ ap (λ n. f p (laid r (suc n) (ps ++ b))) z
    at_run x next (p ∷ ps) b (suc j) (e, a) l =
        let k : ℕ = max (quotient r p) next in
        let z : max x (suc k) + j ≡ max x next + suc j = omega arith in
        let P : ℕ → Type 0 = λ n. reading_at f d (laid r (suc k) (ps ++ b)) n ≡ f (get_or ps j 0) (laid r (suc n) (drop (suc j) ps ++ b)) in
        cond-false (eqb (max x next + suc j) k) _ _ (ne_eqb (max x next + suc j) k (λ e. omega arith)) ∙ subst P z (at_run x (suc k) ps b j a (omega arith))

    -- the slots of quotient x
    module _ (ps : List ℕ) (s : Sorted ps) (x : ℕ) where
      at_cell : (t : ℕ) → start (many r ps) x ≤ t
          → reading_at f d (laid r 0 ps) t ≡ reading_at f d (laid r (slot_after r 0 (lower r ps x)) (quotient_run r ps x ++ upper r ps (suc x))) t
      at_cell t l =
          ap (λ l. reading_at f d (laid r 0 l) t) (halves r ps x s) ∙ at_skip 0 (lower r ps x) (upper r ps x) t (omega (arith, starts ps s x))
          ∙ ap (λ l. reading_at f d (laid r (slot_after r 0 (lower r ps x)) l) t) (upper_step r ps x s)

      pub at_entry : (j : ℕ) → j < many r ps x
          → reading_at f d (laid r 0 ps) (start (many r ps) x + j) ≡ f (get_or (quotient_run r ps x) j 0) (laid r (suc (start (many r ps) x + j)) (drop (suc j) (quotient_run r ps x) ++ upper r ps (suc x)))
      at_entry j l =
          let A : ℕ = slot_after r 0 (lower r ps x) in
          let P : ℕ → Type 0 = λ n. reading_at f d (laid r A (quotient_run r ps x ++ upper r ps (suc x))) (n + j) ≡ f (get_or (quotient_run r ps x) j 0) (laid r (suc (n + j)) (drop (suc j) (quotient_run r ps x) ++ upper r ps (suc x))) in
          at_cell (start (many r ps) x + j) (omega arith) ∙ subst P (starts ps s x) (at_run x A (quotient_run r ps x) (upper r ps (suc x)) j (run_all r ps x) l)

      pub at_free : load (many r ps) x + many r ps x ≡ 0 → reading_at f d (laid r 0 ps) x ≡ d
      at_free z =
          let e : quotient_run r ps x ≡ [] = empty (quotient_run r ps x) (omega arith) in
          at_cell x (omega arith) ∙ ap (λ l. reading_at f d (laid r (slot_after r 0 (lower r ps x)) (l ++ upper r ps (suc x))) x) e
          ∙ at_beyond (slot_after r 0 (lower r ps x)) (upper r ps (suc x)) x (upper_all r ps (suc x))

  -- ---- the views

  others_beyond : (x k : ℕ) (b : List ℕ) → Every (λ p. suc x ≤ quotient r p) b → others r x (laid r k b) ≡ true
  unfolding others laid
  others_beyond x k [] a = refl
  others_beyond x k (p ∷ b) (l, a) = ap not (ne_eqb (quotient r p) x (λ e. omega arith))

  others_run : (x k : ℕ) (ps b : List ℕ) (j : ℕ) → Every (λ p. quotient r p ≡ x) ps → suc j < length ps → others r x (laid r k (drop (suc j) ps ++ b)) ≡ false
  unfolding others laid
  others_run x k ps b j a l =
      rw (drop_more ps (suc j) 0 l) (ap not (eq-eqb (quotient r (get_or ps (suc j) 0)) x (All-get_or (λ p. quotient r p ≡ x) ps (suc j) 0 l a)))

  get_d_rems : (ps : List ℕ) (j : ℕ) → j < length ps → remainder r (get_or ps j 0) ≡ get_or (map (remainder r) ps) j 0
  get_d_rems [] j l = absurd (omega arith)
  get_d_rems (p ∷ ps) zero l = refl
  get_d_rems (p ∷ ps) (suc j) l = get_d_rems ps j (omega arith)

  module _ (ps : List ℕ) (s : Sorted ps) where
    -- a slot of quotient x holds one of its fingerprints, or it is slot x, and free
    pub in_cell : (x t : ℕ) → start (many r ps) x ≤ t → t < start (many r ps) (suc x)
        → ((j : ℕ) × (t ≡ start (many r ps) x + j) × (j < many r ps x)) ⊎ ((t ≡ x) × (load (many r ps) x + many r ps x ≡ 0))
    in_cell x t l g =
        ⊎_elim (λ e. inl (t - start (many r ps) x, omega arith, omega arith)) (λ e. inr (omega arith, e.1)) (start_step (many r ps) x)

    pub uses_law : (x t : ℕ) → start (many r ps) x ≤ t → t < start (many r ps) (suc x) → used_at (laid r 0 ps) t ≡ one_if (ltb 0 (many r ps x))
    uses_law x t l g =
        ⊎_elim
        (λ w. ap (used_at (laid r 0 ps)) w.1 ∙ at_entry (λ p later. 1) 0 ps s x w.0 w.2 ∙ sym (cond-true (ltb 0 (many r ps x)) 1 0 (lt-ltb 0 (many r ps x) (omega (arith, w.2)))))
        (λ w. ap (used_at (laid r 0 ps)) w.0 ∙ at_free (λ p later. 1) 0 ps s x w.1 ∙ sym (cond-false (ltb 0 (many r ps x)) 1 0 (le-ltb 0 (many r ps x) (omega (arith, w.1)))))
        (in_cell x t l g)

    pub holds_law : (x t : ℕ) → start (many r ps) x ≤ t → t < start (many r ps) (suc x) → remainder_at r (laid r 0 ps) t ≡ get_or (remainders r ps x) (t - start (many r ps) x) 0
    holds_law x t l g =
        ⊎_elim
        (λ w.
        let z : t - start (many r ps) x ≡ w.0 = omega (arith, w.1) in
        ap (remainder_at r (laid r 0 ps)) w.1 ∙ at_entry (λ p later. remainder r p) 0 ps s x w.0 w.2 ∙ get_d_rems (quotient_run r ps x) w.0 w.2 ∙ ap (λ n. get_or (remainders r ps x) n 0) (sym z))
        (λ w.
        let e : quotient_run r ps x ≡ [] = empty (quotient_run r ps x) (omega (arith, w.1)) in
        ap (remainder_at r (laid r 0 ps)) w.0 ∙ at_free (λ p later. remainder r p) 0 ps s x w.1 ∙ sym (ap (λ l. get_or (map (remainder r) l) (t - start (many r ps) x) 0) e))
        (in_cell x t l g)

    pub ends_law : (x t : ℕ) → start (many r ps) x ≤ t → t < start (many r ps) (suc x) → runend_at r (laid r 0 ps) t ≡ one_if (eqb (suc t) (start (many r ps) x + many r ps x))
    ends_law x t l g =
        ⊎_elim
        (λ w.
        let j : ℕ = w.0 in
        let later : List Entry = laid r (suc (start (many r ps) x + j)) (drop (suc j) (quotient_run r ps x) ++ upper r ps (suc x)) in
        ap (runend_at r (laid r 0 ps)) w.1 ∙ at_entry (λ p later. one_if (others r (quotient r p) later)) 0 ps s x j w.2
        ∙ ap (λ c. one_if (others r c later)) (All-get_or (λ p. quotient r p ≡ x) (quotient_run r ps x) j 0 w.2 (run_all r ps x))
        ∙ ⊎_elim
        (λ (h : suc j < many r ps x).
        ap one_if (others_run x (suc (start (many r ps) x + j)) (quotient_run r ps x) (upper r ps (suc x)) j (run_all r ps x) h)
        ∙ sym (bit_ne (suc t) (start (many r ps) x + many r ps x) (λ e. omega (arith, w.1))))
        (λ (h : many r ps x ≤ suc j).
        ap (λ l. one_if (others r x (laid r (suc (start (many r ps) x + j)) (l ++ upper r ps (suc x))))) (drop_all (suc j) (quotient_run r ps x) h)
        ∙ ap one_if (others_beyond x (suc (start (many r ps) x + j)) (upper r ps (suc x)) (upper_all r ps (suc x)))
        ∙ sym (bit_eq (suc t) (start (many r ps) x + many r ps x) (omega (arith, w.1, w.2))))
        (cases_lt (suc j) (many r ps x)))
        (λ w. ap (runend_at r (laid r 0 ps)) w.0 ∙ at_free (λ p later. one_if (others r (quotient r p) later)) 0 ps s x w.1
        ∙ sym (bit_ne (suc t) (start (many r ps) x + many r ps x) (λ e. omega (arith, w.0, w.1))))
        (in_cell x t l g)

  -- ---- the offset

  late_beyond : (x next : ℕ) (b : List ℕ) → Every (λ p. x ≤ quotient r p) b → offset_at r (laid r next b) x ≡ 0
  unfolding offset_at laid
  late_beyond x next [] a = refl
  late_beyond x next (p ∷ b) (l, a) =
      let k : ℕ = max (quotient r p) next in
      let z : one_if (leb x k && ltb (quotient r p) x) ≡ 0 = cond-false (leb x k && ltb (quotient r p) x) 1 0 (and_right (leb x k) (ltb (quotient r p) x) (le-ltb (quotient r p) x l)) in
      omega (arith, z, late_beyond x (suc k) b a)

  pub late : (x next : ℕ) (a b : List ℕ) → Every (λ p. quotient r p < x) a → Every (λ p. x ≤ quotient r p) b
      → offset_at r (laid r next (a ++ b)) x + (next - x) ≡ slot_after r next a - x
  unfolding offset_at laid
  late x next [] b g h = omega (arith, late_beyond x next b h)
  late x next (p ∷ a) b (l, g) h =
      let k : ℕ = max (quotient r p) next in
      let ih = late x (suc k) a b g h in
      ⊎_elim
      (λ (w : x ≤ k).
      let z : one_if (leb x k && ltb (quotient r p) x) ≡ 1 = cond-true (leb x k && ltb (quotient r p) x) 1 0 (and_from (leb x k) (ltb (quotient r p) x) (le-leb x k w) (lt-ltb (quotient r p) x l)) in
      omega (arith, z, ih))
      (λ (w : k < x).
      let z : one_if (leb x k && ltb (quotient r p) x) ≡ 0 = cond-false (leb x k && ltb (quotient r p) x) 1 0 (and_left (leb x k) (ltb (quotient r p) x) (lt-leb x k w)) in
      omega (arith, z, ih))
      (⊎_elim (λ v. inr v) (λ v. inl v) (cases_lt k x))

pub layout_law : LayoutLaw
layout_law r ps s = record { sizes = λ x. length-map (quotient_run r ps x) (remainder r); uses = uses_law r ps s; holds = holds_law r ps s; ends = ends_law r ps s }

pub offset_law : OffsetLaw
offset_law r ps s x =
    omega (arith, ap (λ l. offset_at r (laid r 0 l) x) (halves r ps x s), late r x 0 (lower r ps x) (upper r ps x) (lower_all r ps x) (upper_all r ps x), starts r ps s x)
