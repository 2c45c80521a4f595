-- Lists of fingerprints that differ in order alone: crowding, sorting and words do not see it.
use Rattle.std.proofs.Common.{◌≡◌, ℕ, ◌+◌, ◌-◌, ◌<◌, ◌≤◌, true, false, cond, eqb, leb, List, [], ◌∷◌, ◌++◌, length, filter, sym, ap, ◌∙◌, subst, arith}
use Rattle.layout.specs.Rule.{one_if, quotient, sorted, with_one, without_one, many_from, Crowded, Roomy}
use Rattle.layout.specs.Format.{filter_words}
use Rattle.layout.specs.Laws.{copies_of}
use Rattle.layout.proofs.Sorts.{sorted_same_counts, count_here}
use Rattle.layout.proofs.Rooms.{any_order_law}
use Rattle.layout.proofs.Formats.{words_any_order}
use Rattle.layout.proofs.Bounds.{bag_law}
use Rattle.layout.proofs.Bags.{count_law}
use Rattle.filter.specs.Filters.{Crowds}
use Rattle.filter.specs.declared.plan.Plan.{Plan}

-- each fingerprint stands equally often in both
abbrev pub Alike : List ℕ → List ℕ → Type 0
Alike ps qs = (p : ℕ) → copies_of p ps ≡ copies_of p qs

pub alike_cons : (p : ℕ) (ps qs : List ℕ) → Alike ps qs → Alike (p ∷ ps) (p ∷ qs)
alike_cons p ps qs a x = count_here p x ps ∙ ap (λ n. one_if (eqb p x) + n) (a x) ∙ sym (count_here p x qs)

pub alike_sorted : (ps : List ℕ) → Alike (sorted ps) ps
alike_sorted ps p = (count_law p p ps).0

from_alike : (r : ℕ) (ps qs : List ℕ) → Alike ps qs → (c : ℕ) → many_from r ps c ≡ many_from r qs c
from_alike r ps qs a c = sym (any_order_law r ps c) ∙ ap (λ l. many_from r l c) (sorted_same_counts ps qs a) ∙ any_order_law r qs c

pub crowded_alike : (slots r : ℕ) (ps qs : List ℕ) → Alike ps qs → (c : ℕ) → Crowded slots r ps c → Crowded slots r qs c
crowded_alike slots r ps qs a c h = subst (λ n. slots - c < n) (from_alike r ps qs a c) h

pub roomy_alike : (slots r : ℕ) (ps qs : List ℕ) → Alike ps qs → Roomy slots r ps → Roomy slots r qs
roomy_alike slots r ps qs a h c l = h c (crowded_alike slots r qs ps (λ p. sym (a p)) c l)

pub crowds_alike : (plan : Plan) (slots : ℕ) (ps qs : List ℕ) → Alike ps qs → Crowds plan slots ps → Crowds plan slots qs
crowds_alike plan slots ps qs a (c, l, h) = (c, l, crowded_alike slots plan.r ps qs a c h)

-- the words of fingerprints in whatever order
pub words_alike : (r blocks : ℕ) (ps qs : List ℕ) → Alike ps qs → filter_words r blocks ps ≡ filter_words r blocks qs
words_alike r blocks ps qs a =
    sym (words_any_order r blocks ps) ∙ ap (filter_words r blocks) (sorted_same_counts ps qs a) ∙ words_any_order r blocks qs

-- what crowds with some crowds with more
from_more : (r : ℕ) (ps qs : List ℕ) (c : ℕ) → many_from r ps c ≤ many_from r (ps ++ qs) c
from_more r [] qs c = omega arith
from_more r (p ∷ ps) qs c =
    let h = from_more r ps qs c in
    elim (leb c (quotient r p)) as (λ b. length (cond b (p ∷ filter (λ x. leb c (quotient r x)) ps) (filter (λ x. leb c (quotient r x)) ps)) ≤ length (cond b (p ∷ filter (λ x. leb c (quotient r x)) (ps ++ qs)) (filter (λ x. leb c (quotient r x)) (ps ++ qs))))
    [ true ↦ omega arith | false ↦ h ]

pub crowds_more : (plan : Plan) (slots : ℕ) (ps qs : List ℕ) → Crowds plan slots ps → Crowds plan slots (ps ++ qs)
crowds_more plan slots ps qs (c, l, h) = (c, l, omega (arith, from_more plan.r ps qs c))

-- ---- entries in rising order

-- one more
pub insert_entries : (p : ℕ) (es ps qs : List ℕ) → es ≡ sorted ps → Alike (p ∷ ps) qs → with_one p es ≡ sorted qs
insert_entries p es ps qs e a = ap (with_one p) e ∙ sym (bag_law p ps).0 ∙ sorted_same_counts (p ∷ ps) qs a

-- one less
pub remove_entries : (p : ℕ) (es ps qs : List ℕ) → es ≡ sorted ps → Alike (p ∷ qs) ps → without_one p es ≡ sorted qs
remove_entries p es ps qs e a =
    ap (without_one p) (e ∙ sym (sorted_same_counts (p ∷ qs) ps a) ∙ (bag_law p qs).0) ∙ (bag_law p (sorted qs)).2
