-- What the filter's calls tell of a key's fingerprint.
use Rattle.std.proofs.Common.{◌≡◌, ℕ, ◌<◌, Bool, true, false, true≢false, ltb-true, ltb-false, ◌∷◌, Ok, Err, is_ok, Result, subst, sym, ◌∙◌, arith}
use Rattle.layout.specs.Rule.{with_one, without_one}
use Rattle.layout.specs.Laws.{copies_of}
use Rattle.filter.specs.Cuts.{cut_to}
use Rattle.filter.specs.Filters.{words_of, fingerprints, laid_over, Added, Taken, SaysWhether}
use Rattle.filter.specs.declared.fault.FilterFault.{FilterFault}
use Rattle.filter.specs.declared.filter.Filter.{Filter}

-- an entry came
pub entry_came : (f g : Filter) (p n : ℕ) (done : Unit {0}) → p ≡ cut_to f.plan n → Added f g p (Ok done)
    → (fingerprints g ≡ with_one (cut_to f.plan n) (fingerprints f))
    × (words_of g ≡ laid_over f.plan.r f.blocks (cut_to f.plan n ∷ fingerprints f) (words_of f))
entry_came f g p n done is a =
    subst (λ p. (fingerprints g ≡ with_one p (fingerprints f)) × (words_of g ≡ laid_over f.plan.r f.blocks (p ∷ fingerprints f) (words_of f))) is (a.3, a.4)

-- an entry went
pub entry_went : (f g : Filter) (p n : ℕ) (r : Result (Unit {0}) FilterFault) → p ≡ cut_to f.plan n → true ≡ is_ok r → Taken f g p r
    → (fingerprints g ≡ without_one (cut_to f.plan n) (fingerprints f))
    × (words_of g ≡ laid_over f.plan.r f.blocks (without_one (cut_to f.plan n) (fingerprints f)) (words_of f))
entry_went f g p n (Ok done) is ok a =
    subst (λ p. (fingerprints g ≡ without_one p (fingerprints f)) × (words_of g ≡ laid_over f.plan.r f.blocks (without_one p (fingerprints f)) (words_of f))) is (a.2, a.3)
entry_went f g p n (Err e) is ok a = absurd (true≢false ok)

-- and it was there
pub entry_was : (f g : Filter) (p n : ℕ) (r : Result (Unit {0}) FilterFault) → p ≡ cut_to f.plan n → true ≡ is_ok r → Taken f g p r
    → 0 < copies_of (cut_to f.plan n) (fingerprints f)
entry_was f g p n (Ok done) is ok a = subst (λ p. 0 < copies_of p (fingerprints f)) is a.1
entry_was f g p n (Err e) is ok a = absurd (true≢false ok)

-- one is there
pub entry_there : (f : Filter) (p n : ℕ) (there : Bool) → p ≡ cut_to f.plan n → SaysWhether f p (Ok there) → there ≡ true
    → 0 < copies_of (cut_to f.plan n) (fingerprints f)
entry_there f p n there is a t = subst (λ p. 0 < copies_of p (fingerprints f)) is (ltb-true 0 (copies_of p (fingerprints f)) (sym a.1 ∙ t))

-- none is there
pub entry_nowhere : (f : Filter) (p n : ℕ) (there : Bool) → p ≡ cut_to f.plan n → SaysWhether f p (Ok there) → there ≡ false
    → copies_of (cut_to f.plan n) (fingerprints f) ≡ 0
entry_nowhere f p n there is a t = subst (λ p. copies_of p (fingerprints f) ≡ 0) is (omega (arith, ltb-false 0 (copies_of p (fingerprints f)) (sym a.1 ∙ t)))
