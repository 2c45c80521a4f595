-- Sorted fingerprints with one more or one less, and their runs.
use Rattle.std.proofs.Common.{◌≡◌, ℕ, zero, suc, ◌+◌, ◌*◌, ◌^◌, ◌<◌, ◌≤◌, Bool, true, false, cond, eqb, leb, ◌≢◌, List, [], ◌∷◌, ◌++◌, map, length, get_or, take, drop, filter, sym, refl, ap, ◌∙◌, ⊎_elim, arith}
use lib.Pow.{split}
use Rattle.std.specs.List.{AllByRecursion as Every}
use Rattle.std.proofs.lemmas.List.{length-map}
use Rattle.std.proofs.ByRecursion.{all_kept_by, All-get_or, All-from_get_or}
use Rattle.std.proofs.lemmas.Bool.{cases_lt, cases_eq, cases_Bool, cond-true, cond-false, eq-eqb, ne_eqb, le-leb, lt-leb}
use Rattle.layout.specs.Load.{OneMore}
use Rattle.layout.specs.Rule.{quotient, remainder, Sorted, with_one, without_one, sorted, quotient_run, many}
use Rattle.layout.specs.Runs.{remainders}
use Rattle.layout.specs.Moves.{PutInRun, Fit, OrderLaw}
use Rattle.layout.proofs.Splits.{run_all}

-- ---- order

pub all_insert : (P : ℕ → Type 0) (p : ℕ) (ps : List ℕ) → P p → Every P ps → Every P (with_one p ps)
unfolding with_one
all_insert P p [] h a = (h, tt)
all_insert P p (q ∷ qs) h (k, a) = elim (leb p q) as (λ b. Every P (cond b (p ∷ q ∷ qs) (q ∷ with_one p qs))) [ true ↦ (h, (k, a)) | false ↦ (k, all_insert P p qs h a) ]

pub all_sorted : (P : ℕ → Type 0) (ps : List ℕ) → Every P ps → Every P (sorted ps)
unfolding sorted
all_sorted P [] a = tt
all_sorted P (p ∷ ps) (h, a) = all_insert P p (sorted ps) h (all_sorted P ps a)

pub all_remove : (P : ℕ → Type 0) (p : ℕ) (ps : List ℕ) → Every P ps → Every P (without_one p ps)
unfolding without_one
all_remove P p [] a = tt
all_remove P p (q ∷ qs) (k, a) = elim (eqb p q) as (λ b. Every P (cond b qs (q ∷ without_one p qs))) [ true ↦ a | false ↦ (k, all_remove P p qs a) ]

pub all_from : (p q : ℕ) (ps : List ℕ) → p ≤ q → Every (λ x. q ≤ x) ps → Every (λ x. p ≤ x) ps
all_from p q [] l a = tt
all_from p q (x ∷ ps) l (k, a) = (omega arith, all_from p q ps l a)

pub sorted_insert : (p : ℕ) (ps : List ℕ) → Sorted ps → Sorted (with_one p ps)
unfolding with_one
sorted_insert p [] s = (tt, tt)
sorted_insert p (q ∷ qs) (k, s) =
    ⊎_elim (λ (l : q < p). rw (lt-leb p q l) (all_insert (λ x. q ≤ x) p qs (omega arith) k, sorted_insert p qs s))
    (λ (l : p ≤ q). rw (le-leb p q l) ((l, all_from p q qs l k), (k, s))) (cases_lt q p)

pub sorted_remove : (p : ℕ) (ps : List ℕ) → Sorted ps → Sorted (without_one p ps)
unfolding without_one
sorted_remove p [] s = tt
sorted_remove p (q ∷ qs) (k, s) =
    elim (eqb p q) as (λ b. Sorted (cond b qs (q ∷ without_one p qs))) [ true ↦ s | false ↦ (all_remove (λ x. q ≤ x) p qs k, sorted_remove p qs s) ]

pub sorted_sorted : (ps : List ℕ) → Sorted (sorted ps)
unfolding sorted
sorted_sorted [] = tt
sorted_sorted (p ∷ ps) = sorted_insert p (sorted ps) (sorted_sorted ps)

pub order_law : OrderLaw
order_law p ps = (sorted_sorted ps, λ s. (sorted_insert p ps s, sorted_remove p ps s))

-- ---- the runs

pub insert_front : (p : ℕ) (ps : List ℕ) → Every (λ x. p ≤ x) ps → with_one p ps ≡ p ∷ ps
unfolding with_one
insert_front p [] a = refl
insert_front p (q ∷ qs) (l, a) = rw (le-leb p q l) refl

pub kept_insert : (t : ℕ → Bool) (p : ℕ) (ps : List ℕ) → Sorted ps → filter t (with_one p ps) ≡ cond (t p) (with_one p (filter t ps)) (filter t ps)
unfolding with_one
kept_insert t p [] s = refl
kept_insert t p (q ∷ qs) (k, s) =
    ⊎_elim
    (λ (l : q < p). rw (lt-leb p q l) (
    let ih = kept_insert t p qs s in
    ⊎_elim (λ (e : t q ≡ true). rw e (rw ih (elim (t p) as (λ b. q ∷ cond b (with_one p (filter t qs)) (filter t qs) ≡ cond b (with_one p (q ∷ filter t qs)) (q ∷ filter t qs)) [ true ↦ rw (lt-leb p q l) refl | false ↦ refl ])))
    (λ (e : t q ≡ false). rw e ih) (cases_Bool (t q))))
    (λ (l : p ≤ q). rw (le-leb p q l) (ap (λ x. cond (t p) x (filter t (q ∷ qs)))
    (sym (insert_front p (filter t (q ∷ qs)) (all_kept_by t (λ x. p ≤ x) (q ∷ qs) (l, all_from p q qs l k))))))
    (cases_lt q p)

pub kept_remove : (t : ℕ → Bool) (p : ℕ) (ps : List ℕ) → filter t (without_one p ps) ≡ cond (t p) (without_one p (filter t ps)) (filter t ps)
unfolding without_one
kept_remove t p [] = elim (t p) as (λ b. ◌≡◌ {A = List ℕ} [] (cond b [] [])) [ true ↦ refl | false ↦ refl ]
kept_remove t p (q ∷ qs) =
    ⊎_elim
    (λ (z : p ≡ q). rw (eq-eqb p q z) (
    ⊎_elim (λ (e : t q ≡ true). let e' : t p ≡ true = ap t z ∙ e in rw (e, e', eq-eqb p q z) refl)
    (λ (e : t q ≡ false). let e' : t p ≡ false = ap t z ∙ e in rw (e, e') refl) (cases_Bool (t q))))
    (λ (z : p ≢ q). rw (ne_eqb p q z) (
    let ih = kept_remove t p qs in
    ⊎_elim (λ (e : t q ≡ true). rw e (rw ih (elim (t p) as (λ b. ◌≡◌ {A = List ℕ} (q ∷ cond b (without_one p (filter t qs)) (filter t qs)) (cond b (without_one p (q ∷ filter t qs)) (q ∷ filter t qs))) [ true ↦ rw (ne_eqb p q z) refl | false ↦ refl ])))
    (λ (e : t q ≡ false). rw e ih) (cases_Bool (t q))))
    (cases_eq p q)

-- ---- the remainders of one quotient are in the order of the fingerprints

module _ (r : ℕ) where
  pub whole : (p : ℕ) → quotient r p * 2 ^ r + remainder r p ≡ p
  unfolding quotient remainder
  whole p = split p r

  same_le : (p q : ℕ) → quotient r p ≡ quotient r q → (p ≤ q → remainder r p ≤ remainder r q) × (remainder r p ≤ remainder r q → p ≤ q)
  same_le p q e = (λ l. omega (arith, whole p, whole q, ap (λ x. x * 2 ^ r) e), λ l. omega (arith, whole p, whole q, ap (λ x. x * 2 ^ r) e))

  leb_rems : (p q : ℕ) → quotient r p ≡ quotient r q → leb p q ≡ leb (remainder r p) (remainder r q)
  leb_rems p q e =
      ⊎_elim (λ (l : remainder r q < remainder r p). lt-leb p q (omega (arith, whole p, whole q, ap (λ x. x * 2 ^ r) e)) ∙ sym (lt-leb (remainder r p) (remainder r q) l))
      (λ (l : remainder r p ≤ remainder r q). le-leb p q ((same_le p q e).1 l) ∙ sym (le-leb (remainder r p) (remainder r q) l)) (cases_lt (remainder r q) (remainder r p))

  pub eqb_rems : (p q : ℕ) → quotient r p ≡ quotient r q → eqb p q ≡ eqb (remainder r p) (remainder r q)
  eqb_rems p q e =
      ⊎_elim (λ (l : p ≡ q). eq-eqb p q l ∙ sym (eq-eqb (remainder r p) (remainder r q) (ap (remainder r) l)))
      (λ (l : p ≢ q). ne_eqb p q l ∙ sym (ne_eqb (remainder r p) (remainder r q) (λ z. l (omega (arith, whole p, whole q, ap (λ x. x * 2 ^ r) e))))) (cases_eq p q)

  rems_insert : (p : ℕ) (ps : List ℕ) → Every (λ q. quotient r q ≡ quotient r p) ps → map (remainder r) (with_one p ps) ≡ with_one (remainder r p) (map (remainder r) ps)
  unfolding with_one
  rems_insert p [] a = refl
  rems_insert p (q ∷ qs) (e, a) =
      rw (leb_rems p q (sym e)) (elim (leb (remainder r p) (remainder r q)) as
      (λ b. map (remainder r) (cond b (p ∷ q ∷ qs) (q ∷ with_one p qs)) ≡ cond b (remainder r p ∷ remainder r q ∷ map (remainder r) qs) (remainder r q ∷ with_one (remainder r p) (map (remainder r) qs)))
      [ true ↦ refl | false ↦ ap {B = List ℕ} (λ z. remainder r q ∷ z) (rems_insert p qs a) ])

  rems_remove : (p : ℕ) (ps : List ℕ) → Every (λ q. quotient r q ≡ quotient r p) ps → map (remainder r) (without_one p ps) ≡ without_one (remainder r p) (map (remainder r) ps)
  unfolding without_one
  rems_remove p [] a = refl
  rems_remove p (q ∷ qs) (e, a) =
      rw (eqb_rems p q (sym e)) (elim (eqb (remainder r p) (remainder r q)) as
      (λ b. map (remainder r) (cond b qs (q ∷ without_one p qs)) ≡ cond b (map (remainder r) qs) (remainder r q ∷ without_one (remainder r p) (map (remainder r) qs)))
      [ true ↦ refl | false ↦ ap {B = List ℕ} (λ z. remainder r q ∷ z) (rems_remove p qs a) ])

  pub sorted_rems : (c : ℕ) (ps : List ℕ) → Every (λ q. quotient r q ≡ c) ps → Sorted ps → Sorted (map (remainder r) ps)
  sorted_rems c [] a s = tt
  sorted_rems c (p ∷ ps) (e, a) (k, s) = (above ps a k, sorted_rems c ps a s)
    where
      above : (qs : List ℕ) → Every (λ q. quotient r q ≡ c) qs → Every (λ q. p ≤ q) qs → Every (λ x. remainder r p ≤ x) (map (remainder r) qs)
      above [] b l = tt
      above (q ∷ qs) (d, b) (l, ls) = ((same_le p q (e ∙ sym d)).0 l, above qs b ls)

-- ---- by places

insert_at : (v : ℕ) (l : List ℕ) (j : ℕ) → Sorted l → Fit j v l → with_one v l ≡ take j l ++ v ∷ drop j l
unfolding with_one
insert_at v l zero s f = insert_front v l (All-from_get_or (λ x. v ≤ x) l 0 (λ i g. f.after i (omega arith) g))
insert_at v [] (suc j) s f = absurd (omega (arith, f.within))
insert_at v (q ∷ qs) (suc j) (k, s) f =
    let ih : with_one v qs ≡ take j qs ++ v ∷ drop j qs = insert_at v qs j s (record { within = omega (arith, f.within); before = λ i g. f.before (suc i) (omega arith); after = λ i g h. f.after (suc i) (omega arith) (omega arith) }) in
    ⊎_elim
    (λ (g : q < v). rw (lt-leb v q g) (ap {B = List ℕ} (λ z. q ∷ z) ih))
    (λ (g : v ≤ q).
    let e : v ≡ q = omega (arith, f.before 0 (omega arith)) in
    rw (le-leb v q g) (ap {B = List ℕ} (λ z. z ∷ q ∷ qs) e ∙ ap {B = List ℕ} (λ z. q ∷ z) (ap {B = List ℕ} (λ z. z ∷ qs) (sym e) ∙ sym (insert_front v qs (all_from v q qs g k)) ∙ ih)))
    (cases_lt q v)

-- a list that rises from v on and has v begins with it
front : (v : ℕ) (l : List ℕ) (j : ℕ) → Sorted l → Every (λ x. v ≤ x) l → j < length l → get_or l j 0 ≡ v → l ≡ v ∷ without_one v l
unfolding without_one
front v [] j s a g e = absurd (omega arith)
front v (q ∷ qs) j (k, s) (l, a) g e =
    let z : v ≡ q = omega (arith, l, least j g e) in rw (eq-eqb v q z) (ap {B = List ℕ} (λ x. x ∷ qs) (sym z))
  where
    least : (j : ℕ) → j < suc (length qs) → get_or (q ∷ qs) j 0 ≡ v → q ≤ v
    least zero g e = omega (arith, e)
    least (suc j) g e = omega (arith, e, All-get_or (λ x. q ≤ x) qs j 0 (omega arith) k)

pub remove_at : (v : ℕ) (l : List ℕ) (j : ℕ) → Sorted l → j < length l → get_or l j 0 ≡ v → without_one v l ≡ take j l ++ drop (suc j) l
unfolding without_one
remove_at v [] j s g e = absurd (omega arith)
remove_at v (q ∷ qs) zero s g e = rw (eq-eqb v q (sym e)) refl
remove_at v (q ∷ qs) (suc j) (k, s) g e =
    let ih = remove_at v qs j s (omega arith) e in
    ⊎_elim
    (λ (z : v ≡ q). rw (eq-eqb v q z)
    (front v qs j s (all_from v q qs (omega arith) k) (omega arith) e ∙ ap {B = List ℕ} (λ x. v ∷ x) ih ∙ ap {B = List ℕ} (λ x. x ∷ (take j qs ++ drop (suc j) qs)) z))
    (λ (z : v ≢ q). rw (ne_eqb v q z) (ap {B = List ℕ} (λ x. q ∷ x) ih))
    (cases_eq v q)

-- a list without its place j, and with it again
put_back : (v : ℕ) (l : List ℕ) (j : ℕ) → j < length l → get_or l j 0 ≡ v
    → (l ≡ take j (take j l ++ drop (suc j) l) ++ v ∷ drop j (take j l ++ drop (suc j) l)) × (suc (length (take j l ++ drop (suc j) l)) ≡ length l)
put_back v [] j g e = absurd (omega arith)
put_back v (q ∷ qs) zero g e = (ap {B = List ℕ} (λ x. x ∷ qs) e, refl)
put_back v (q ∷ qs) (suc j) g e = let ih = put_back v qs j (omega arith) e in (ap {B = List ℕ} (λ x. q ∷ x) ih.0, ap suc ih.1)

pub length_insert : (p : ℕ) (ps : List ℕ) → length (with_one p ps) ≡ suc (length ps)
unfolding with_one
length_insert p [] = refl
length_insert p (q ∷ qs) = elim (leb p q) as (λ b. length (cond b (p ∷ q ∷ qs) (q ∷ with_one p qs)) ≡ suc (suc (length qs))) [ true ↦ refl | false ↦ ap suc (length_insert p qs) ]

pub sorted_kept : (t : ℕ → Bool) (ps : List ℕ) → Sorted ps → Sorted (filter t ps)
sorted_kept t [] s = tt
sorted_kept t (p ∷ ps) (k, s) =
    elim (t p) as (λ b. Sorted (cond b (p ∷ filter t ps) (filter t ps))) [ true ↦ (all_kept_by t (λ q. p ≤ q) ps k, sorted_kept t ps s) | false ↦ sorted_kept t ps s ]

-- ---- one more, and one less

module _ (r p : ℕ) (ps : List ℕ) (s : Sorted ps) where
  run_insert : quotient_run r (with_one p ps) (quotient r p) ≡ with_one p (quotient_run r ps (quotient r p))
  run_insert = kept_insert (λ q. eqb (quotient r q) (quotient r p)) p ps s ∙ cond-true (eqb (quotient r p) (quotient r p)) _ _ (eq-eqb (quotient r p) (quotient r p) refl)

  run_insert_other : (x : ℕ) → x ≢ quotient r p → quotient_run r (with_one p ps) x ≡ quotient_run r ps x
  run_insert_other x ne = kept_insert (λ q. eqb (quotient r q) x) p ps s ∙ cond-false (eqb (quotient r p) x) _ _ (ne_eqb (quotient r p) x (λ e. ne (sym e)))

  pub one_insert : OneMore (many r ps) (many r (with_one p ps)) (quotient r p)
  one_insert = record { here = ap length run_insert ∙ length_insert p (quotient_run r ps (quotient r p)); other = λ x ne. ap length (run_insert_other x ne) }

  pub put_insert : (j : ℕ) → Fit j (remainder r p) (remainders r ps (quotient r p)) → PutInRun (remainders r ps) (remainders r (with_one p ps)) (quotient r p) j (remainder r p)
  put_insert j f =
      let c : ℕ = quotient r p in
      record {
        within = f.within;
        here = ap (map (remainder r)) run_insert ∙ rems_insert r p (quotient_run r ps c) (run_all r ps c)
            ∙ insert_at (remainder r p) (remainders r ps c) j (sorted_rems r c (quotient_run r ps c) (run_all r ps c) (sorted_kept (λ q. eqb (quotient r q) c) ps s)) f;
        other = λ x ne. ap (map (remainder r)) (run_insert_other x ne);
      }

  run_remove : quotient_run r (without_one p ps) (quotient r p) ≡ without_one p (quotient_run r ps (quotient r p))
  run_remove = kept_remove (λ q. eqb (quotient r q) (quotient r p)) p ps ∙ cond-true (eqb (quotient r p) (quotient r p)) _ _ (eq-eqb (quotient r p) (quotient r p) refl)

  run_remove_other : (x : ℕ) → x ≢ quotient r p → quotient_run r (without_one p ps) x ≡ quotient_run r ps x
  run_remove_other x ne = kept_remove (λ q. eqb (quotient r q) x) p ps ∙ cond-false (eqb (quotient r p) x) _ _ (ne_eqb (quotient r p) x (λ e. ne (sym e)))

  module _ (j : ℕ) (l : j < many r ps (quotient r p)) (e : get_or (remainders r ps (quotient r p)) j 0 ≡ remainder r p) where
    long : j < length (remainders r ps (quotient r p))
    long = omega (arith, l, length-map (quotient_run r ps (quotient r p)) (remainder r))

    rems_removed : remainders r (without_one p ps) (quotient r p) ≡ take j (remainders r ps (quotient r p)) ++ drop (suc j) (remainders r ps (quotient r p))
    rems_removed =
        ap (map (remainder r)) run_remove ∙ rems_remove r p (quotient_run r ps (quotient r p)) (run_all r ps (quotient r p))
        ∙ remove_at (remainder r p) (remainders r ps (quotient r p)) j
        (sorted_rems r (quotient r p) (quotient_run r ps (quotient r p)) (run_all r ps (quotient r p)) (sorted_kept (λ q. eqb (quotient r q) (quotient r p)) ps s)) long e

    pub one_remove : OneMore (many r (without_one p ps)) (many r ps) (quotient r p)
    one_remove = record {
      here = omega (
        arith,
        length-map (quotient_run r ps (quotient r p)) (remainder r),
        length-map (quotient_run r (without_one p ps) (quotient r p)) (remainder r),
        ap length rems_removed,
        (put_back (remainder r p) (remainders r ps (quotient r p)) j long e).1,
      );
      other = λ x ne. sym (ap length (run_remove_other x ne));
    }

    pub put_remove : PutInRun (remainders r (without_one p ps)) (remainders r ps) (quotient r p) j (remainder r p)
    put_remove = record {
      within = omega (arith, ap length rems_removed, long, (put_back (remainder r p) (remainders r ps (quotient r p)) j long e).1);
      here = (put_back (remainder r p) (remainders r ps (quotient r p)) j long e).0 ∙ ap (λ z. take j z ++ remainder r p ∷ drop j z) (sym rems_removed);
      other = λ x ne. sym (ap (map (remainder r)) (run_remove_other x ne));
    }
