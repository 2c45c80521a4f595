-- Keys that are the same, and lists of the same keys.
use Rattle.std.proofs.Common.{◌≡◌, ℕ, ◌+◌, ◌<◌, Bool, true, false, eqb, ◌⊎◌, List, [], ◌∷◌, map, length, sym, refl, ap, ◌∙◌, inl, inr, ⊎_elim, arith}
use Rattle.std.proofs.lemmas.Bool.{eq-eqb, cond-true, cases_Bool}
use Rattle.std.proofs.lemmas.List.Sums.{sum_by-cons}
use Rattle.kinds.specs.Keys.{same_key}
use Rattle.layout.specs.Rule.{one_if}
use Rattle.layout.specs.Laws.{copies_of}
use Rattle.layout.proofs.Sorts.{count_here}
use Rattle.tables.proofs.Options.{same_is, same_refl}
use Rattle.history.specs.History.{times}
use Rattle.history.proofs.Weights.{weigh, weigh_ones, weigh_same}
use Rattle.history.proofs.Entries.{Alike}

-- two keys are one, or not
pub one_key : {K : Type 0} (bytes : K → List ℕ) (apart : (a b : K) → bytes a ≡ bytes b → a ≡ b) (a b : K) → (a ≡ b) ⊎ (a ≡ b → ⊥)
one_key bytes apart a b =
    ⊎_elim (λ (s : same_key bytes a b ≡ true). inl (same_is bytes apart a b s))
    (λ (s : same_key bytes a b ≡ false). inr (λ e. let z : true ≡ false = sym (same_refl bytes a) ∙ ap (same_key bytes a) e ∙ s in let n : ◌≡◌ {A = ℕ} 0 1 = cc in omega arith))
    (cases_Bool (same_key bytes a b))

module _ {K : Type 0} (bytes : K → List ℕ) (apart : (a b : K) → bytes a ≡ bytes b → a ≡ b) where
  times_nil : (k : K) → times bytes k [] ≡ 0
  times_nil k = refl

  pub times_cons : (k q : K) (ks : List K) → times bytes k (q ∷ ks) ≡ one_if (same_key bytes q k) + times bytes k ks
  times_cons k q ks = sum_by-cons (λ x. one_if (same_key bytes x k)) q ks

  -- lists of the same keys are equally long
  pub length_same : (ks ls : List K) → ((k : K) → times bytes k ks ≡ times bytes k ls) → length ks ≡ length ls
  length_same ks ls h =
      sym (weigh_ones ks) ∙ weigh_same (same_key bytes) (same_is bytes apart) (same_refl bytes) (times bytes) times_nil times_cons (λ _. 1) ks ls h ∙ weigh_ones ls

  module _ (number : K → ℕ) where
    count_weigh : (p : ℕ) (ks : List K) → copies_of p (map number ks) ≡ weigh (λ k. one_if (eqb (number k) p)) ks
    unfolding weigh
    count_weigh p [] = refl
    count_weigh p (k ∷ ks) = count_here (number k) p (map number ks) ∙ ap (λ n. one_if (eqb (number k) p) + n) (count_weigh p ks)

    -- and have the same fingerprints
    pub numbers_same : (ks ls : List K) → ((k : K) → times bytes k ks ≡ times bytes k ls) → Alike (map number ks) (map number ls)
    numbers_same ks ls h p =
        count_weigh p ks
        ∙ weigh_same (same_key bytes) (same_is bytes apart) (same_refl bytes) (times bytes) times_nil times_cons (λ k. one_if (eqb (number k) p)) ks ls h
        ∙ sym (count_weigh p ls)

    there_case : (b : Bool) (key q : K) (ks : List K) → same_key bytes q key ≡ b → 0 < one_if b + times bytes key ks → (0 < times bytes key ks → 0 < copies_of (number key) (map number ks))
        → 0 < one_if (eqb (number q) (number key)) + copies_of (number key) (map number ks)
    there_case true key q ks e l rest =
        let one : one_if (eqb (number q) (number key)) ≡ 1 = cond-true (eqb (number q) (number key)) 1 0 (eq-eqb (number q) (number key) (ap number (same_is bytes apart q key e))) in omega arith
    there_case false key q ks e l rest = let r = rest (omega arith) in omega arith

    -- the fingerprint of a key that is there is there
    pub number_there : (key : K) (ks : List K) → 0 < times bytes key ks → 0 < copies_of (number key) (map number ks)
    number_there key [] l = let n = times_nil key in absurd (omega arith)
    number_there key (q ∷ ks) l =
        let c = times_cons key q ks in
        let h = count_here (number q) (number key) (map number ks) in
        let t = there_case (same_key bytes q key) key q ks refl (omega arith) (number_there key ks) in omega arith
