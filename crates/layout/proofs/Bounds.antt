-- Past the slots, no fingerprints, the place of a newcomer, and lists in any order.
use Rattle.std.proofs.Common.{◌≡◌, ℕ, zero, suc, ◌+◌, ◌-◌, ◌<◌, ◌≤◌, Bool, ◌&&◌, eqb, ltb, leb, ◌≢◌, ◌⊎◌, List, [], ◌∷◌, ◌++◌, length, get_or, sym, refl, ap, ◌∙◌, inl, inr, ⊎_elim, arith}
use Rattle.std.specs.List.{AllByRecursion as Every}
use Rattle.std.proofs.lemmas.List.{length-map}
use Rattle.std.proofs.ByRecursion.{All-get_or}
use Rattle.std.proofs.lemmas.Bool.{cases_lt, cases_eq, cond-false, eq-eqb, ne_eqb, le-leb, lt-leb, and_left}
use Rattle.layout.specs.Load.{load, StartLaw, CellsLaw, FirstIdle}
use Rattle.layout.specs.Rule.{one_if, quotient, remainder, Sorted, with_one, without_one, sorted, Entry, laid, reading_at, used_at, runend_at, others, offset_at, quotient_run, many, many_from}
use Rattle.layout.specs.Runs.{remainders}
use Rattle.layout.specs.Laws.{WithinLaw, EmptyLaw, FitLaw, BagLaw, StopSlotsLaw, BalanceSlotsLaw, IdleLaw}
use Rattle.layout.proofs.Loads.{load_step, cell_of}
use Rattle.layout.proofs.Crowds.{room}
use Rattle.layout.proofs.Splits.{upper, halves, run_all}
use Rattle.layout.proofs.Bridge.{layout_law, offset_law, lower_none}
use Rattle.layout.proofs.Moves.{bit_zero}
use Rattle.layout.proofs.Inserts.{insert_front, sorted_rems, sorted_kept, sorted_sorted, all_remove, all_from}
use Rattle.layout.proofs.Rooms.{tails, to_numbers, room_law, room_load_law, used_law, used_jump_law}
use Rattle.layout.proofs.Stops.{stop_law, balance_law}

pub start_law : StartLaw
start_law m x = omega (arith, load_step m x)

at_past : {X : Type 0} (f : ℕ → List Entry → X) (d : X) (slots : ℕ) (es : List Entry) → Every (λ e. e.slot < slots) es → (s : ℕ) → slots ≤ s → reading_at f d es s ≡ d
unfolding reading_at
at_past f d slots [] a s l = refl
at_past f d slots (e ∷ es) (g, a) s l = cond-false (eqb s e.slot) _ _ (ne_eqb s e.slot (λ z. omega arith)) ∙ at_past f d slots es a s l

late_past : (r slots : ℕ) (es : List Entry) → Every (λ e. e.slot < slots) es → (x : ℕ) → slots ≤ x → offset_at r es x ≡ 0
unfolding offset_at
late_past r slots [] a x l = refl
late_past r slots (e ∷ es) (g, a) x l =
    let t : Bool = leb x e.slot && ltb (quotient r e.fingerprint) x in
    let z : one_if t ≡ 0 = cond-false t 1 0 (and_left (leb x e.slot) (ltb (quotient r e.fingerprint) x) (lt-leb x e.slot (omega arith))) in
    omega (arith, z, late_past r slots es a x l)

pub within_law : WithinLaw
within_law slots r ps s h =
    let a : Every (λ e. e.slot < slots) (laid r 0 ps) = (room_law slots r ps s).0 h in
    let n = to_numbers slots r ps h in
    let w = room slots (many r ps) (many_from r ps) (tails r ps s) n in
    let all : many_from r ps 0 ≡ length ps = sym (ap length (halves r ps 0 s ∙ ap (λ l. l ++ upper r ps 0) (lower_none r ps))) in
    record {
      size = omega (arith, n 0);
      used = at_past (λ p later. 1) 0 slots (laid r 0 ps) a;
      rem = at_past (λ p later. remainder r p) 0 slots (laid r 0 ps) a;
      end = at_past (λ p later. one_if (others r (quotient r p) later)) 0 slots (laid r 0 ps) a;
      occ = λ c l. bit_zero (many r ps c) (omega (arith, tails r ps s c, n c));
      past = late_past r slots (laid r 0 ps) a;
      offset = λ x l. omega (arith, offset_law r ps s x, w x l);
      last = λ c l. let c-in : c ≤ slots = omega (arith, tails r ps s c, n c) in omega (arith, offset_law r ps s c, w c c-in, tails r ps s c);
    }

pub empty_law : EmptyLaw
unfolding reading_at laid offset_at
empty_law slots r x = (λ c l. omega arith, refl, refl, refl, refl, refl)

-- ---- the place of a newcomer

pub rises : (l : List ℕ) → Sorted l → (i k : ℕ) → i ≤ k → k < length l → get_or l i 0 ≤ get_or l k 0
rises [] s i k le g = absurd (omega arith)
rises (x ∷ l) (a, s) zero zero le g = omega arith
rises (x ∷ l) (a, s) zero (suc k) le g = All-get_or (λ y. x ≤ y) l k 0 (omega arith) a
rises (x ∷ l) (a, s) (suc i) zero le g = absurd (omega arith)
rises (x ∷ l) (a, s) (suc i) (suc k) le g = rises l s i k (omega arith) (omega arith)

pub fit_law : FitLaw
fit_law r ps s c =
    let l : List ℕ = remainders r ps c in
    let up : Sorted l = sorted_rems r c (quotient_run r ps c) (run_all r ps c) (sorted_kept (λ q. eqb (quotient r q) c) ps s) in
    let len : length l ≡ many r ps c = length-map (quotient_run r ps c) (remainder r) in (
      up,
      λ i k le g. rises l up i k le (omega arith),
      λ j v le lo hi. record {
        within = omega arith;
        before = λ i g. omega (arith, lo (omega arith), rises l up i (j - 1) (omega arith) (omega arith));
        after = λ i g k. omega (arith, hi (omega arith), rises l up j i g k);
      },
    )

-- ---- lists in any order

remove_insert : (p : ℕ) (ps : List ℕ) → without_one p (with_one p ps) ≡ ps
unfolding without_one with_one
remove_insert p [] = rw (eq-eqb p p refl) refl
remove_insert p (q ∷ qs) =
    ⊎_elim (λ (l : q < p). rw (lt-leb p q l) (rw (ne_eqb p q (λ e. omega arith)) (ap {B = List ℕ} (λ z. q ∷ z) (remove_insert p qs))))
    (λ (l : p ≤ q). rw (le-leb p q l) (rw (eq-eqb p p refl) refl)) (cases_lt q p)

swap : (p q : ℕ) → p ≢ q → (l : List ℕ) → Sorted l → with_one q (without_one p l) ≡ without_one p (with_one q l)
unfolding without_one with_one
swap p q ne [] s = rw (ne_eqb p q ne) refl
swap p q ne (x ∷ xs) (a, s) =
    ⊎_elim
    (λ (l : x < q). rw (lt-leb q x l) (⊎_elim
    (λ (e : p ≡ x). rw (eq-eqb p x e) refl)
    (λ (e : p ≢ x). rw (ne_eqb p x e) (rw (lt-leb q x l) (ap {B = List ℕ} (λ z. x ∷ z) (swap p q ne xs s)))) (cases_eq p x)))
    (λ (l : q ≤ x). rw (le-leb q x l) (rw (ne_eqb p q ne)
    (insert_front q (without_one p (x ∷ xs)) (all_remove (λ y. q ≤ y) p (x ∷ xs) (l, all_from q x xs l a)))))
    (cases_lt x q)

sorted_removed : (p : ℕ) (ps : List ℕ) → sorted (without_one p ps) ≡ without_one p (sorted ps)
unfolding sorted without_one
sorted_removed p [] = refl
sorted_removed p (q ∷ qs) =
    ⊎_elim
    (λ (e : p ≡ q). rw (eq-eqb p q e) (sym (remove_insert p (sorted qs)) ∙ ap (λ x. without_one p (with_one x (sorted qs))) e))
    (λ (e : p ≢ q). rw (ne_eqb p q e) (ap (with_one q) (sorted_removed p qs) ∙ swap p q e (sorted qs) (sorted_sorted qs)))
    (cases_eq p q)

pub bag_law : BagLaw
unfolding sorted
bag_law p ps = (refl, sorted_removed p ps, remove_insert p ps)

-- ---- the bits alone

pub stop_slots_law : StopSlotsLaw
stop_slots_law r ps s x =
    let st = stop_law (many r ps) (runend_at r (laid r 0 ps)) (layout_law r ps s).ends x in
    let o = offset_law r ps s x in
    let free : load (many r ps) x + many r ps x ≡ 0 → used_at (laid r 0 ps) x ≡ 0 =
    λ z. used_law r ps s x ∙ bit_zero (offset_at r (laid r 0 ps) x + many r ps x) (omega (arith, o, z)) in (
      λ z. free (st.0 z),
      λ e h. ⊎_elim (λ w. inl (w.0, free w.1))
          (λ w. let z : suc e ≡ (x + offset_at r (laid r 0 ps) x) + many r ps x = omega (arith, w.1, o) in
          inr (w.0, z, λ y l g. used_jump_law r ps s x y l (omega arith)))
          (st.1 e h),
    )

pub balance_slots_law : BalanceSlotsLaw
balance_slots_law r ps s x =
    let b = balance_law (many r ps) (runend_at r (laid r 0 ps)) (layout_law r ps s).ends x in
    let o = offset_law r ps s x in
    (λ z. b.0 (omega (arith, o)), λ l. b.1 (omega (arith, o)))

-- ---- what is always there

pub cells_law : CellsLaw
cells_law m s = let w = cell_of m s in (w.0, omega (arith, w.1), w.2, w.3)

-- the first idle slot of the n after c, or none
find_idle : (m : ℕ → ℕ) (c n : ℕ) → ((t : ℕ) × FirstIdle m c t × (t ≤ c + n)) ⊎ ((x : ℕ) → c < x → x ≤ c + n → 0 < load m x)
find_idle m c zero = inr (λ x l g. absurd (omega arith))
find_idle m c (suc n) =
    ⊎_elim (λ f. inl (f.0, f.1, omega (arith, f.2)))
    (λ full. ⊎_elim
    (λ (z : 0 < load m (c + suc n)). inr (λ x l g. ⊎_elim (λ (e : x ≡ c + suc n). rw e z) (λ (e : x ≢ c + suc n). full x l (omega arith)) (cases_eq x (c + suc n))))
    (λ (z : load m (c + suc n) ≤ 0). inl (c + suc n, record { from = omega arith; idle = omega arith; waits = λ x l g. full x l (omega arith) }, omega arith))
    (cases_lt 0 (load m (c + suc n))))
    (find_idle m c n)

pub idle_law : IdleLaw
idle_law slots r ps s h c l =
    let under : c < slots = omega (arith, tails r ps s c, to_numbers slots r ps h c) in
    ⊎_elim (λ f. (f.0, f.1, omega (arith, f.2)))
    (λ full. absurd (omega (arith, full slots under (omega arith), ((room_load_law slots r ps s).0 h).0)))
    (find_idle (many r ps) c (slots - c))
