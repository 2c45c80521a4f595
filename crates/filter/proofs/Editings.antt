-- One entry more or less in the words is one fingerprint more or less in the list that they show.
use Rattle.std.proofs.Common.{◌≡◌, ℕ, zero, suc, ◌+◌, ◌-◌, ◌*◌, ◌<◌, ◌≤◌, true, false, cond, ◌&&◌, eqb, ltb, leb, ◌≢◌, ◌⊎◌, List, get_or, sym, ap, ◌∙◌, subst, inl, inr, ⊎_elim, arith}
use Rattle.std.proofs.lemmas.List.{length-map}
use Rattle.std.proofs.lemmas.Bool.{cases_order, cases_lt, cases_eq, cases_Bool, and_parts, and_cases, ltb-true, ltb-false, cond-true, cond-false, eq-eqb, ne_eqb, eqb-true, eqb-false, lt-ltb, le-ltb, le-leb, lt-leb}
use Rattle.layout.specs.Rule.{one_if, quotient, remainder, Sorted, with_one, without_one, laid, occupied_at, runend_at, remainder_at, quotient_run, many}
use Rattle.layout.specs.Runs.{remainders}
use Rattle.layout.specs.Load.{start, FirstFree, FirstIdle}
use Rattle.layout.specs.Moves.{Fit, Slid, SlidEnds}
use Rattle.layout.proofs.Edits.{insert_slots_law, remove_slots_law, insert_offsets_law, remove_offsets_law, insert_occupied_law}
use Rattle.layout.proofs.Bags.{remove_occupied_law}
use Rattle.layout.proofs.Inserts.{one_remove}
use Rattle.layout.proofs.Loads.{remove_law}
use Rattle.blocks.specs.Views.{occupied_bit_in, runend_in, remainder_in, Shows}
use Rattle.filter.specs.Editing.{EntryPut, EntryGone}

-- every place is below p, p itself, one above a place from p up to u, or above u
by_place : (P : ℕ → Type 0) (p u : ℕ) → p ≤ u → ((k : ℕ) → k < p → P k) → P p → ((k : ℕ) → p ≤ k → k < u → P (suc k)) → ((k : ℕ) → u < k → P k) → (k : ℕ) → P k
by_place P p u l below here moved above zero =
    ⊎_elim (λ (z : zero ≡ p). subst P (sym z) here) (λ o. ⊎_elim (λ (g : zero < p). below zero g) (λ (g : p < zero). absurd (omega arith)) o) (cases_order zero p)
by_place P p u l below here moved above (suc k) =
    ⊎_elim (λ (z : suc k ≡ p). subst P (sym z) here)
    (λ o. ⊎_elim (λ (g : suc k < p). below (suc k) g)
    (λ (g : p < suc k). ⊎_elim (λ (h : k < u). moved k (omega arith) h) (λ (h : u ≤ k). above (suc k) (omega arith)) (cases_lt k u)) o)
    (cases_order (suc k) p)

-- every place is below p, from p up to u, u itself or above u
by_place_down : (P : ℕ → Type 0) (p u : ℕ) → p ≤ u → ((k : ℕ) → k < p → P k) → ((k : ℕ) → p ≤ k → k < u → P k) → P u → ((k : ℕ) → u < k → P k) → (k : ℕ) → P k
by_place_down P p u l below moved gap above k =
    ⊎_elim (λ (g : k < p). below k g)
    (λ (g : p ≤ k). ⊎_elim (λ (z : k ≡ u). subst P (sym z) gap) (λ o. ⊎_elim (λ (h : k < u). moved k g h) (λ (h : u < k). above k h) o) (cases_order k u))
    (cases_lt k p)

only_bit : (n : ℕ) → 0 < n → cond (eqb n 1) 0 1 ≡ one_if (ltb 1 n)
only_bit n l =
    ⊎_elim (λ (z : n ≡ 1). cond-true (eqb n 1) 0 1 (eq-eqb n 1 z) ∙ sym (cond-false (ltb 1 n) 1 0 (le-ltb 1 n (omega arith))))
    (λ (z : n ≢ 1). cond-false (eqb n 1) 0 1 (ne_eqb n 1 z) ∙ sym (cond-true (ltb 1 n) 1 0 (lt-ltb 1 n (omega arith)))) (cases_eq n 1)

-- up to the place before t is below t
up_to : (x t : ℕ) → 0 < t → leb x (t - 1) ≡ ltb x t
up_to x t l =
    ⊎_elim (λ (g : x < t). le-leb x (t - 1) (omega arith) ∙ sym (lt-ltb x t g)) (λ (g : t ≤ x). lt-leb x (t - 1) (omega arith) ∙ sym (le-ltb x t g)) (cases_lt x t)

module _ (r p : ℕ) (ps ws vs : List ℕ) (j u : ℕ) (s : Sorted ps) (shows : Shows r ws ps)
    (free : FirstFree (many r ps) (quotient r p) u) (fit : Fit j (remainder r p) (remainders r ps (quotient r p))) where
  pub put_shows : EntryPut r ws vs (quotient r p) (start (many r ps) (quotient r p) + j) u (remainder r p) (eqb j (many r ps (quotient r p))) (ltb 0 j && eqb j (many r ps (quotient r p)))
      → Shows r vs (with_one p ps)
  put_shows put =
      let at = insert_slots_law r p ps j u s free fit in
      let M : ℕ = many r ps (quotient r p) in
      let P : ℕ = start (many r ps) (quotient r p) + j in
      record {
        occupied = λ k. put.occupied k ∙ ap (cond (eqb k (quotient r p)) 1) (shows.occupied k) ∙ sym (insert_occupied_law r p ps s k);
        runends = by_place (λ k. runend_in r vs k ≡ runend_at r (laid r 0 (with_one p ps)) k) P u at.room
            (λ k l. ⊎_elim
            (λ (z : suc k ≡ P). put.end_before k z ∙ ⊎_elim
            (λ (y : (ltb 0 j && eqb j M) ≡ true).
            cond-true (ltb 0 j && eqb j M) 0 (runend_in r ws k) y ∙ sym (at.ends.cleared k z (ltb-true 0 j (and_parts (ltb 0 j) (eqb j M) y).0) (eqb-true j M (and_parts (ltb 0 j) (eqb j M) y).1)).0)
            (λ (y : (ltb 0 j && eqb j M) ≡ false).
            cond-false (ltb 0 j && eqb j M) 0 (runend_in r ws k) y ∙ shows.runends k ∙ sym (at.ends.kept k z (not_last y)))
            (cases_Bool (ltb 0 j && eqb j M)))
            (λ (z : suc k ≢ P). put.end_below k (omega arith) ∙ shows.runends k ∙ sym (at.ends.below k (omega arith))) (cases_eq (suc k) P))
            (put.end_here ∙ sym at.ends.here)
            (λ k lo hi. put.end_moved k lo hi ∙ shows.runends k ∙ sym (at.ends.moved k lo hi))
            (λ k hi. put.end_above k hi ∙ shows.runends k ∙ sym (at.ends.above k hi));
        offsets = λ b. put.offsets b ∙ ap (λ x. x + one_if (ltb (quotient r p) (64 * b) && leb (64 * b) u)) (shows.offsets b) ∙ sym (insert_offsets_law r p ps u s free (64 * b));
        remainders = by_place (λ k. remainder_in r vs k ≡ remainder_at r (laid r 0 (with_one p ps)) k) P u at.room
            (λ k l. put.rem_below k l ∙ shows.remainders k ∙ sym (at.remainders.below k l))
            (put.rem_here ∙ sym at.remainders.here)
            (λ k lo hi. put.rem_moved k lo hi ∙ shows.remainders k ∙ sym (at.remainders.moved k lo hi))
            (λ k hi. put.rem_above k hi ∙ shows.remainders k ∙ sym (at.remainders.above k hi));
      }
    where
      not_last : (ltb 0 j && eqb j (many r ps (quotient r p))) ≡ false → (j ≡ 0) ⊎ (j < many r ps (quotient r p))
      not_last y = ⊎_elim (λ (z : ltb 0 j ≡ false). inl (omega (arith, ltb-false 0 j z)))
          (λ (z : eqb j (many r ps (quotient r p)) ≡ false).
          let ne : j ≢ many r ps (quotient r p) = eqb-false j (many r ps (quotient r p)) z in
          inr (omega (arith, fit.within, length-map (quotient_run r ps (quotient r p)) (remainder r))))
          (and_cases (ltb 0 j) (eqb j (many r ps (quotient r p))) y)

-- the same of an entry less: slot u is the one before the first idle slot
module _ (r p : ℕ) (ps ws vs : List ℕ) (j t : ℕ) (s : Sorted ps) (shows : Shows r ws ps)
    (in_run : j < many r ps (quotient r p)) (found : get_or (remainders r ps (quotient r p)) j 0 ≡ remainder r p) (idle : FirstIdle (many r ps) (quotient r p) t) where
  pub gone_shows : EntryGone r ws vs (quotient r p) (start (many r ps) (quotient r p) + j) (t - 1)
      (ltb 0 j && eqb (suc j) (many r ps (quotient r p))) (eqb (many r ps (quotient r p)) 1)
      → Shows r vs (without_one p ps)
  gone_shows gone =
      let at = remove_slots_law r p ps j t s in_run found idle in
      let one = one_remove r p ps s j in_run found in
      let M : ℕ = many r ps (quotient r p) in
      let N : ℕ = many r (without_one p ps) (quotient r p) in
      let P : ℕ = start (many r ps) (quotient r p) + j in
      let u : ℕ = t - 1 in
      let more : M ≡ suc N = one.here in
      -- the run without it starts where it did
      let same : start (many r (without_one p ps)) (quotient r p) + j ≡ P =
      omega (arith, (remove_law (many r ps) (many r (without_one p ps)) (quotient r p) t one idle).before (quotient r p) (omega arith)) in
      let room : P ≤ u = omega (arith, at.room, same) in
      let rems = subst (λ x. Slid x u (remainder r p) (remainder_at r (laid r 0 (without_one p ps))) (remainder_at r (laid r 0 ps))) same at.remainders in
      let ends = subst (λ x. SlidEnds x u j N (runend_at r (laid r 0 (without_one p ps))) (runend_at r (laid r 0 ps))) same at.ends in
      record {
        occupied = λ k. gone.occupied k ∙ ⊎_elim
            (λ (z : k ≡ quotient r p).
            cond-true (eqb k (quotient r p)) (cond (eqb M 1) 0 1) (occupied_bit_in r ws k) (eq-eqb k (quotient r p) z)
            ∙ only_bit M (omega arith) ∙ ap (λ x. one_if (ltb 1 (many r ps x))) (sym z)
            ∙ sym (cond-true (eqb k (quotient r p)) (one_if (ltb 1 (many r ps k))) (occupied_at r ps k) (eq-eqb k (quotient r p) z)))
            (λ (z : k ≢ quotient r p).
            cond-false (eqb k (quotient r p)) (cond (eqb M 1) 0 1) (occupied_bit_in r ws k) (ne_eqb k (quotient r p) z)
            ∙ shows.occupied k
            ∙ sym (cond-false (eqb k (quotient r p)) (one_if (ltb 1 (many r ps k))) (occupied_at r ps k) (ne_eqb k (quotient r p) z)))
            (cases_eq k (quotient r p)) ∙ sym (remove_occupied_law r p ps j s in_run found k);
        runends = by_place_down (λ k. runend_in r vs k ≡ runend_at r (laid r 0 (without_one p ps)) k) P u room
            (λ k l. ⊎_elim
            (λ (z : suc k ≡ P). gone.end_before k z ∙ ⊎_elim
            (λ (y : (ltb 0 j && eqb (suc j) M) ≡ true).
            let last : suc j ≡ M = eqb-true (suc j) M (and_parts (ltb 0 j) (eqb (suc j) M) y).1 in
            cond-true (ltb 0 j && eqb (suc j) M) 1 (runend_in r ws k) y
            ∙ sym (ends.cleared k z (ltb-true 0 j (and_parts (ltb 0 j) (eqb (suc j) M) y).0) (omega arith)).1)
            (λ (y : (ltb 0 j && eqb (suc j) M) ≡ false).
            let not_last : (j ≡ 0) ⊎ (j < N) = ⊎_elim (λ (w : ltb 0 j ≡ false). inl (omega (arith, ltb-false 0 j w)))
            (λ (w : eqb (suc j) M ≡ false). let ne : suc j ≢ M = eqb-false (suc j) M w in inr (omega arith)) (and_cases (ltb 0 j) (eqb (suc j) M) y) in
            cond-false (ltb 0 j && eqb (suc j) M) 1 (runend_in r ws k) y ∙ shows.runends k ∙ ends.kept k z not_last)
            (cases_Bool (ltb 0 j && eqb (suc j) M)))
            (λ (z : suc k ≢ P). gone.end_below k (omega arith) ∙ shows.runends k ∙ ends.below k (omega arith)) (cases_eq (suc k) P))
            (λ k lo hi. gone.end_moved k lo hi ∙ shows.runends (suc k) ∙ ends.moved k lo hi)
            (gone.end_gap ∙ sym ends.gap)
            (λ k hi. gone.end_above k hi ∙ shows.runends k ∙ ends.above k hi);
        offsets = λ b.
            let law = remove_offsets_law r p ps j t s in_run found idle (64 * b) in
            let tests : one_if (ltb (quotient r p) (64 * b) && leb (64 * b) u) ≡ one_if (ltb (quotient r p) (64 * b) && ltb (64 * b) t) =
            ap (λ x. one_if (ltb (quotient r p) (64 * b) && x)) (up_to (64 * b) t (omega (arith, idle.from))) in
            omega (arith, gone.offsets b, shows.offsets b, law, tests);
        remainders = by_place_down (λ k. remainder_in r vs k ≡ remainder_at r (laid r 0 (without_one p ps)) k) P u room
            (λ k l. gone.rem_below k l ∙ shows.remainders k ∙ rems.below k l)
            (λ k lo hi. gone.rem_moved k lo hi ∙ shows.remainders (suc k) ∙ rems.moved k lo hi)
            (gone.rem_gap ∙ sym rems.gap)
            (λ k hi. gone.rem_above k hi ∙ shows.remainders k ∙ rems.above k hi);
      }
