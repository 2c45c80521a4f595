-- Sorted fingerprints, cut by their quotients.
use Rattle.std.proofs.Common.{◌≡◌, ℕ, suc, ◌<◌, ◌≤◌, Bool, true, false, eqb, ltb, leb, ◌⊎◌, List, [], ◌∷◌, ◌++◌, filter, sym, refl, ap, ◌∙◌, inl, inr, ⊎_elim, arith}
use lib.Pow.{shr_mono}
use Rattle.std.specs.List.{AllByRecursion as Every}
use Rattle.std.proofs.lemmas.Bool.{cases_lt, cases_order, eq-eqb, ne_eqb, lt-ltb, le-ltb, le-leb, lt-leb, eqb-true, leb-true, ltb-true}
use Rattle.std.proofs.ByRecursion.{kept_by_passes}
use Rattle.layout.specs.Rule.{quotient, Sorted, quotient_run}

pub quotient_mono : (r p q : ℕ) → p ≤ q → quotient r p ≤ quotient r q
unfolding quotient
quotient_mono r p q l = shr_mono r l

none_kept : (a : ℕ → Bool) (p : ℕ) (ps : List ℕ) → ((q : ℕ) → p ≤ q → a q ≡ false) → Every (λ q. p ≤ q) ps → filter a ps ≡ []
none_kept a p [] h l = refl
none_kept a p (q ∷ qs) h (l, ls) = rw (h q l) (none_kept a p qs h ls)

-- what t keeps of sorted fingerprints is what a keeps and then what b keeps, where t is one of the two and a passes nothing from what b passes on
pub cut : (t a b : ℕ → Bool)
    → ((p : ℕ) → ((t p ≡ false) × (a p ≡ false) × (b p ≡ false)) ⊎ (((t p ≡ true) × (a p ≡ true) × (b p ≡ false)) ⊎ ((t p ≡ true) × (a p ≡ false) × (b p ≡ true))))
    → ((p q : ℕ) → b p ≡ true → p ≤ q → a q ≡ false)
    → (ps : List ℕ) → Sorted ps → filter t ps ≡ filter a ps ++ filter b ps
cut t a b ways up [] s = refl
cut t a b ways up (p ∷ ps) (l, s) =
    let ih = cut t a b ways up ps s in
    ⊎_elim (λ w. rw (w.0, w.1, w.2) ih)
    (λ o. ⊎_elim (λ w. rw (w.0, w.1, w.2) (ap {B = List ℕ} (λ z. p ∷ z) ih))
    (λ w. let e : filter a ps ≡ [] = none_kept a p ps (λ q g. up p q w.2 g) l in
    rw (w.0, w.1, w.2, e) (ap {B = List ℕ} (λ z. p ∷ z) (ih ∙ ap (λ z. z ++ filter b ps) e))) o)
    (ways p)

module _ (r : ℕ) where
  -- the fingerprints below quotient x, and those from x on
  abbrev pub lower : List ℕ → ℕ → List ℕ
  lower ps x = filter (λ p. ltb (quotient r p) x) ps

  abbrev pub upper : List ℕ → ℕ → List ℕ
  upper ps x = filter (λ p. leb x (quotient r p)) ps

  pub lower_step : (ps : List ℕ) (x : ℕ) → Sorted ps → lower ps (suc x) ≡ lower ps x ++ quotient_run r ps x
  lower_step ps x s =
      cut (λ p. ltb (quotient r p) (suc x)) (λ p. ltb (quotient r p) x) (λ p. eqb (quotient r p) x)
      (λ p. ⊎_elim
      (λ (e : quotient r p ≡ x). inr (inr (lt-ltb (quotient r p) (suc x) (omega arith), le-ltb (quotient r p) x (omega arith), eq-eqb (quotient r p) x e)))
      (λ o. ⊎_elim
      (λ (l : quotient r p < x). inr (inl (lt-ltb (quotient r p) (suc x) (omega arith), lt-ltb (quotient r p) x l, ne_eqb (quotient r p) x (λ e. omega arith))))
      (λ (l : x < quotient r p). inl (le-ltb (quotient r p) (suc x) (omega arith), le-ltb (quotient r p) x (omega arith), ne_eqb (quotient r p) x (λ e. omega arith))) o)
      (cases_order (quotient r p) x))
      (λ p q e l. le-ltb (quotient r q) x (omega (arith, eqb-true (quotient r p) x e, quotient_mono r p q l))) ps s

  pub upper_step : (ps : List ℕ) (x : ℕ) → Sorted ps → upper ps x ≡ quotient_run r ps x ++ upper ps (suc x)
  upper_step ps x s =
      cut (λ p. leb x (quotient r p)) (λ p. eqb (quotient r p) x) (λ p. leb (suc x) (quotient r p))
      (λ p. ⊎_elim
      (λ (e : quotient r p ≡ x). inr (inl (le-leb x (quotient r p) (omega arith), eq-eqb (quotient r p) x e, lt-leb (suc x) (quotient r p) (omega arith))))
      (λ o. ⊎_elim
      (λ (l : quotient r p < x). inl (lt-leb x (quotient r p) l, ne_eqb (quotient r p) x (λ e. omega arith), lt-leb (suc x) (quotient r p) (omega arith)))
      (λ (l : x < quotient r p). inr (inr (le-leb x (quotient r p) (omega arith), ne_eqb (quotient r p) x (λ e. omega arith), le-leb (suc x) (quotient r p) l))) o)
      (cases_order (quotient r p) x))
      (λ p q e l. ne_eqb (quotient r q) x (λ z. omega (arith, leb-true (suc x) (quotient r p) e, quotient_mono r p q l))) ps s

  all_pass : (ps : List ℕ) → filter (λ p. true) ps ≡ ps
  all_pass [] = refl
  all_pass (p ∷ ps) = ap {B = List ℕ} (λ z. p ∷ z) (all_pass ps)

  pub halves : (ps : List ℕ) (x : ℕ) → Sorted ps → ps ≡ lower ps x ++ upper ps x
  halves ps x s =
      sym (all_pass ps) ∙ cut (λ p. true) (λ p. ltb (quotient r p) x) (λ p. leb x (quotient r p))
      (λ p. ⊎_elim
      (λ (l : quotient r p < x). inr (inl (refl, lt-ltb (quotient r p) x l, lt-leb x (quotient r p) l)))
      (λ (l : x ≤ quotient r p). inr (inr (refl, le-ltb (quotient r p) x l, le-leb x (quotient r p) l))) (cases_lt (quotient r p) x))
      (λ p q e l. le-ltb (quotient r q) x (omega (arith, leb-true x (quotient r p) e, quotient_mono r p q l))) ps s

  -- what the parts hold
  weaken : (P Q : ℕ → Type 0) → ((p : ℕ) → P p → Q p) → (ps : List ℕ) → Every P ps → Every Q ps
  weaken P Q h [] a = tt
  weaken P Q h (p ∷ ps) (a, b) = (h p a, weaken P Q h ps b)

  pub run_all : (ps : List ℕ) (x : ℕ) → Every (λ p. quotient r p ≡ x) (quotient_run r ps x)
  run_all ps x = weaken _ _ (λ p e. eqb-true (quotient r p) x e) (quotient_run r ps x) (kept_by_passes (λ p. eqb (quotient r p) x) ps)

  pub upper_all : (ps : List ℕ) (x : ℕ) → Every (λ p. x ≤ quotient r p) (upper ps x)
  upper_all ps x = weaken _ _ (λ p e. leb-true x (quotient r p) e) (upper ps x) (kept_by_passes (λ p. leb x (quotient r p)) ps)

  pub lower_all : (ps : List ℕ) (x : ℕ) → Every (λ p. quotient r p < x) (lower ps x)
  lower_all ps x = weaken _ _ (λ p e. ltb-true (quotient r p) x e) (lower ps x) (kept_by_passes (λ p. ltb (quotient r p) x) ps)
