-- How often a fingerprint is there, and what the slots show.
use Rattle.std.proofs.Common.{◌≡◌, ℕ, suc, ◌+◌, ◌-◌, ◌<◌, ◌≤◌, Bool, true, false, cond, eqb, ltb, ◌≢◌, List, [], ◌∷◌, length, filter, sym, refl, ap, ◌∙◌, subst, ⊎_elim, arith}
use Rattle.std.specs.List.{AllByRecursion as Every}
use Rattle.std.proofs.ByRecursion.{kept_by_passes}
use Rattle.std.proofs.lemmas.List.Sums.{length-filter}
use Rattle.std.proofs.lemmas.Bool.{cases_lt, cases_eq, cond-true, cond-false, eq-eqb, ne_eqb, lt-ltb, le-ltb, eqb-true}
use Rattle.layout.specs.Load.{load, start}
use Rattle.layout.specs.Rule.{one_if, quotient, remainder, Sorted, with_one, without_one, sorted, laid, used_at, remainder_at, runend_at, offset_at, many, occupied_at}
use Rattle.layout.specs.Runs.{fingerprint_at, remainders, PlaceLaw}
use Rattle.layout.specs.Laws.{copies_of, CountLaw, FindLaw, FreeLaw, RemoveOccupiedLaw}
use Rattle.layout.proofs.Bridge.{at_entry, layout_law, offset_law}
use Rattle.layout.proofs.Moves.{used_is, bit_pos, bit_zero}
use Rattle.layout.proofs.Inserts.{kept_insert, kept_remove, insert_front, length_insert, eqb_rems, one_remove}
use Rattle.layout.proofs.Rooms.{count_sorted}

pub place_law : PlaceLaw
place_law r ps s c j l =
    let e : (c + offset_at r (laid r 0 ps) c) + j ≡ start (many r ps) c + j = ap (λ k. (c + k) + j) (offset_law r ps s c) in (
      ap (used_at (laid r 0 ps)) e ∙ at_entry r (λ p later. 1) 0 ps s c j l,
      ap (fingerprint_at (laid r 0 ps)) e ∙ at_entry r (λ p later. p) 0 ps s c j l,
    )

-- of a list of which each element is p
length_remove_same : (p : ℕ) (ps : List ℕ) → Every (λ q. eqb q p ≡ true) ps → length (without_one p ps) ≡ length ps - 1
unfolding without_one
length_remove_same p [] a = omega arith
length_remove_same p (q ∷ qs) (e, a) = rw (eq-eqb p q (sym (eqb-true q p e))) (omega arith)

pub sorted_of_Sorted : (ps : List ℕ) → Sorted ps → sorted ps ≡ ps
unfolding sorted
sorted_of_Sorted [] s = refl
sorted_of_Sorted (p ∷ ps) (k, s) = ap (with_one p) (sorted_of_Sorted ps s) ∙ insert_front p ps k

pub count_law : CountLaw
count_law p q ps =
    let t : ℕ → Bool = λ x. eqb x q in
    let by : (xs : List ℕ) → copies_of q xs ≡ length (filter t xs) = λ xs. sym (length-filter t xs) in
    let more : Sorted ps → length (filter t (with_one p ps)) ≡ length (filter t ps) + one_if (eqb p q) =
    λ s. ap length (kept_insert t p ps s)
    ∙ elim (eqb p q) as (λ b. length (cond b (with_one p (filter t ps)) (filter t ps)) ≡ length (filter t ps) + one_if b)
    [ true ↦ omega (arith, length_insert p (filter t ps)) | false ↦ omega arith ] in
    let less : length (filter t (without_one p ps)) ≡ length (filter t ps) - one_if (eqb p q) =
    ap length (kept_remove t p ps)
    ∙ ⊎_elim
    (λ (e : p ≡ q).
    let one : one_if (eqb p q) ≡ 1 = cond-true (eqb p q) 1 0 (eq-eqb p q e) in
    ap length (cond-true (eqb p q) _ _ (eq-eqb p q e))
    ∙ omega (arith, one, length_remove_same p (filter t ps) (subst (λ z. Every (λ x. eqb x z ≡ true) (filter t ps)) (sym e) (kept_by_passes t ps))))
    (λ (e : p ≢ q).
    let none : one_if (eqb p q) ≡ 0 = cond-false (eqb p q) 1 0 (ne_eqb p q e) in
    ap length (cond-false (eqb p q) _ _ (ne_eqb p q e)) ∙ omega (arith, none))
    (cases_eq p q) in (
      by (sorted ps) ∙ count_sorted t ps ∙ sym (by ps),
      λ s. by (with_one p ps) ∙ more s ∙ ap (λ n. n + one_if (eqb p q)) (sym (by ps)),
      by (without_one p ps) ∙ less ∙ ap (λ n. n - one_if (eqb p q)) (sym (by ps)),
      sorted_of_Sorted ps,
    )

kept_remainders : (r p : ℕ) (ps : List ℕ) → length (filter (λ x. eqb x p) ps) ≡ length (filter (λ x. eqb x (remainder r p)) (remainders r ps (quotient r p)))
kept_remainders r p [] = refl
kept_remainders r p (q ∷ qs) =
    let ih = kept_remainders r p qs in
    ⊎_elim
    (λ (e : quotient r q ≡ quotient r p). rw (eq-eqb (quotient r q) (quotient r p) e, eqb_rems r q p e)
    (elim (eqb (remainder r q) (remainder r p)) as
    (λ b. length (cond b (q ∷ filter (λ x. eqb x p) qs) (filter (λ x. eqb x p) qs))
    ≡ length (cond b (remainder r q ∷ filter (λ x. eqb x (remainder r p)) (remainders r qs (quotient r p))) (filter (λ x. eqb x (remainder r p)) (remainders r qs (quotient r p)))))
    [ true ↦ ap suc ih | false ↦ ih ]))
    (λ (e : quotient r q ≢ quotient r p). rw (ne_eqb (quotient r q) (quotient r p) e, ne_eqb q p (λ z. e (ap (quotient r) z))) ih)
    (cases_eq (quotient r q) (quotient r p))

pub find_law : FindLaw
find_law r p ps =
    sym (length-filter (λ x. eqb x p) ps) ∙ kept_remainders r p ps ∙ length-filter (λ x. eqb x (remainder r p)) (remainders r ps (quotient r p))

pub free_law : FreeLaw
free_law r ps s c u l z full =
    let at = used_is (many r ps) (remainders r ps) (used_at (laid r 0 ps)) (remainder_at r (laid r 0 ps)) (runend_at r (laid r 0 ps)) (layout_law r ps s) in
    let sum : ℕ → ℕ = λ x. load (many r ps) x + many r ps x in
    record {
      from = l;
      free = ⊎_elim (λ (g : 0 < sum u). absurd (omega (arith, z, at u, bit_pos (sum u) g))) (λ (g : sum u ≤ 0). omega arith) (cases_lt 0 (sum u));
      used = λ x lo hi. ⊎_elim (λ (g : 0 < sum x). g) (λ (g : sum x ≤ 0). absurd (omega (arith, full x lo hi, at x, bit_zero (sum x) (omega arith)))) (cases_lt 0 (sum x));
    }

one_left : (a b : ℕ) → b ≡ suc a → one_if (ltb 0 a) ≡ one_if (ltb 1 b)
one_left a b e =
    ⊎_elim (λ (g : 0 < a). bit_pos a g ∙ sym (cond-true (ltb 1 b) 1 0 (lt-ltb 1 b (omega arith))))
    (λ (g : a ≤ 0). bit_zero a (omega arith) ∙ sym (cond-false (ltb 1 b) 1 0 (le-ltb 1 b (omega arith)))) (cases_lt 0 a)

pub remove_occupied_law : RemoveOccupiedLaw
remove_occupied_law r p ps j s l e x =
    let one = one_remove r p ps s j l e in
    ⊎_elim
    (λ (z : x ≡ quotient r p).
    one_left (many r (without_one p ps) x) (many r ps x) (ap (many r ps) z ∙ one.here ∙ ap (λ y. suc (many r (without_one p ps) y)) (sym z))
    ∙ sym (cond-true (eqb x (quotient r p)) (one_if (ltb 1 (many r ps x))) (occupied_at r ps x) (eq-eqb x (quotient r p) z)))
    (λ (z : x ≢ quotient r p).
    ap (λ k. one_if (ltb 0 k)) (sym (one.other x z)) ∙ sym (cond-false (eqb x (quotient r p)) (one_if (ltb 1 (many r ps x))) (occupied_at r ps x) (ne_eqb x (quotient r p) z)))
    (cases_eq x (quotient r p))
