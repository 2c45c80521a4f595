-- Which refusals of the parts below can reach a book.
use Rattle.std.proofs.Common.{◌≡◌, ℕ, ◌+◌, ◌^◌, ◌<◌, ◌∷◌, Err, refl, ap, ◌∙◌, mod-lt, arith, pow_pos}
use Rattle.filter.specs.Cuts.{cut_to}
use Rattle.filter.specs.Filters.{Crowds, fingerprints, slots_of, Added}
use Rattle.filter.specs.declared.plan.Plan.{Plan}
use Rattle.filter.specs.declared.fault.FilterFault.{FilterFault}
use Rattle.filter.specs.declared.fault.FilterFault.TheVariants.{WideFingerprint, NoSlot}
use Rattle.filter.specs.declared.filter.Filter.{Filter}

-- what is cut to a plan is a fingerprint under it
pub cut_below : (plan : Plan) (n : ℕ) → cut_to plan n < 2 ^ (plan.q + plan.r)
cut_below plan n = mod-lt n (pow_pos (plan.q + plan.r))

pub cut_by : (p n : ℕ) (a b : Plan) → p ≡ cut_to a n → a ≡ b → p ≡ cut_to b n
cut_by p n a b e s = e ∙ ap (λ (plan : Plan). cut_to plan n) s

-- a fingerprint under the plan is refused only where it crowds some quotient
pub add_refused : (f g : Filter) (p n : ℕ) (e : FilterFault) → p ≡ cut_to f.plan n → Added f g p (Err e)
    → (e ≡ NoSlot) × Crowds f.plan (slots_of f) (p ∷ fingerprints f) × (g ≡ f)
add_refused f g p n NoSlot is a = (refl, a.1, a.3)
add_refused f g p n WideFingerprint is a = let b = cut_below f.plan n in absurd (omega (arith, a.0))
add_refused f g p n e is a = absurd a
