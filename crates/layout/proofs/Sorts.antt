-- Sorted lists with the same fingerprints are one list, and a list that was sorted is `sorted` of what it was.
use Rattle.std.proofs.Common.{◌≡◌, ℕ, suc, ◌+◌, ◌<◌, ◌≤◌, eqb, ◌≢◌, List, [], ◌∷◌, length, sym, refl, ap, ◌∙◌, ap₂, ⊎_elim, arith}
use Rattle.std.specs.Ordering.{nat_cmp}
use Rattle.std.specs.List.Sorted.{IsPermutation, IsSortedByKey, IsNonDecreasing}
use Rattle.std.specs.List.{AllByRecursion as Every}
use Rattle.std.proofs.lemmas.List.Sums.{sum_by-cons}
use Rattle.std.proofs.lemmas.List.Sorted.{sum_by-IsPermutation, IsNonDecreasingBy-from_sort}
use Rattle.std.proofs.ByRecursion.{All-from_get_or}
use Rattle.std.proofs.lemmas.Bool.{cases_order, cases_eq, eq-eqb, ne_eqb, cond-true, cond-false}
use Rattle.layout.specs.Rule.{one_if, Sorted, sorted, without_one}
use Rattle.layout.specs.Laws.{copies_of}
use Rattle.layout.proofs.Inserts.{sorted_sorted, length_insert}
use Rattle.layout.proofs.Bags.{count_law}

pub count_here : (p q : ℕ) (ps : List ℕ) → copies_of q (p ∷ ps) ≡ one_if (eqb p q) + copies_of q ps
count_here p q ps = sum_by-cons (λ x. one_if (eqb x q)) p ps

-- of a list from q on, something smaller is not there
count_below : (p q : ℕ) (ps : List ℕ) → p < q → Every (λ x. q ≤ x) ps → copies_of p ps ≡ 0
count_below p q [] l a = refl
count_below p q (x ∷ ps) l (g, a) =
    let z : one_if (eqb x p) ≡ 0 = cond-false (eqb x p) 1 0 (ne_eqb x p (λ e. omega arith)) in
    omega (arith, count_here x p ps, count_below p q ps l a)

count_own : (p : ℕ) (ps : List ℕ) → copies_of p (p ∷ ps) ≡ suc (copies_of p ps)
count_own p ps = let one : one_if (eqb p p) ≡ 1 = cond-true (eqb p p) 1 0 (eq-eqb p p refl) in omega (arith, count_here p p ps)

-- sorted lists that have each fingerprint equally often
pub sorted_one : (xs ys : List ℕ) → Sorted xs → Sorted ys → ((p : ℕ) → copies_of p xs ≡ copies_of p ys) → xs ≡ ys
sorted_one [] [] s t h = refl
sorted_one [] (y ∷ ys) s t h = absurd (omega (arith, h y, count_own y ys))
sorted_one (x ∷ xs) [] s t h = absurd (omega (arith, h x, count_own x xs))
sorted_one (x ∷ xs) (y ∷ ys) (a, s) (b, t) h =
    ⊎_elim
    (λ (e : x ≡ y). ap₂ {C = List ℕ} (λ u v. u ∷ v) e (sorted_one xs ys s t (λ p.
    omega (arith, h p, count_here x p xs, count_here y p ys, ap (λ z. one_if (eqb z p)) e))))
    (λ o. ⊎_elim
    (λ (l : x < y). absurd (omega (arith, h x, count_own x xs, count_below x y (y ∷ ys) l (omega arith, b))))
    (λ (l : y < x). absurd (omega (arith, h y, count_own y ys, count_below y x (x ∷ xs) l (omega arith, a)))) o)
    (cases_order x y)

pub sorted_rising : (xs : List ℕ) → IsNonDecreasing xs → Sorted xs
sorted_rising [] h = tt
sorted_rising (x ∷ xs) h = (
  All-from_get_or (λ y. x ≤ y) xs 0 (λ i g. h 0 (suc i) 0 (omega arith) (omega arith)),
  sorted_rising xs (λ i j d l g. h (suc i) (suc j) d (omega arith) (omega arith)),
)

pub count_shuffled : (p : ℕ) (xs ys : List ℕ) → IsPermutation xs ys → copies_of p ys ≡ copies_of p xs
count_shuffled p xs ys h = sum_by-IsPermutation (λ x. one_if (eqb x p)) xs ys h

-- what a sort leaves
pub sorted_from_sort : (xs ys : List ℕ) → IsPermutation xs ys → IsNonDecreasing ys → ys ≡ sorted xs
sorted_from_sort xs ys h up =
    sorted_one ys (sorted xs) (sorted_rising ys up) (sorted_sorted xs) (λ p. count_shuffled p xs ys h ∙ sym (count_law p p xs).0)

-- lists with the same fingerprints sort alike
pub sorted_same_counts : (xs ys : List ℕ) → ((p : ℕ) → copies_of p xs ≡ copies_of p ys) → sorted xs ≡ sorted ys
sorted_same_counts xs ys h =
    sorted_one (sorted xs) (sorted ys) (sorted_sorted xs) (sorted_sorted ys) (λ p. (count_law p p xs).0 ∙ h p ∙ sym (count_law p p ys).0)

-- the same from the clauses of `sort`
pub after_sort : (xs ys : List ℕ) → IsPermutation xs ys → IsSortedByKey (λ x. x) nat_cmp ys → Sorted ys × (ys ≡ sorted xs)
after_sort xs ys h up =
    let rises : IsNonDecreasing ys = IsNonDecreasingBy-from_sort (λ x. x) ys up in
    (sorted_rising ys rises, sorted_from_sort xs ys h rises)

pub length_sorted : (ps : List ℕ) → length (sorted ps) ≡ length ps
unfolding sorted
length_sorted [] = refl
length_sorted (p ∷ ps) = length_insert p (sorted ps) ∙ ap suc (length_sorted ps)

-- one less, where it is there
pub length_remove : (p : ℕ) (ps : List ℕ) → 0 < copies_of p ps → suc (length (without_one p ps)) ≡ length ps
unfolding without_one
length_remove p [] l = absurd (omega arith)
length_remove p (q ∷ qs) l =
    ⊎_elim (λ (e : p ≡ q). rw (eq-eqb p q e) refl)
    (λ (e : p ≢ q). rw (ne_eqb p q e) (ap suc (length_remove p qs (omega (arith, count_here q p qs, other e)))))
    (cases_eq p q)
  where
    other : p ≢ q → one_if (eqb q p) ≡ 0
    other e = cond-false (eqb q p) 1 0 (ne_eqb q p (λ z. e (sym z)))
