-- What a value's bytes say of it.
use Rattle.std.proofs.Common.{◌≡◌, ℕ, suc, ◌-◌, ◌<◌, ◌≤◌, List, ◌∷◌, ℤ, pos, negsuc, ◌-ℤ◌, Ok, Err, Result, MatchResult, sym, subst, arith, w64, to_z, of_z}
use Rattle.std.proofs.lemmas.Int.{ints}
use Rattle.figures.specs.declared.FigureFault.{FigureFault}
use Rattle.figures.specs.declared.FigureFault.TheVariants.{Unreadable, TooLarge}
use Rattle.figures.specs.Figures.{Figure, Whole}
use Rattle.figures.specs.Numbers.{FitsValue}
use Rattle.figures.specs.Amounts.{Amount, Weighed}

too_low : (xs ds : List ℕ) (v : ℕ) → xs ≡ 45 ∷ ds → Whole ds v → 32768 < v → (z : ℤ) × (FitsValue z → ⊥) × Amount xs z
too_low xs ds v e (m, f, h) big = let same : m ≡ suc (m - 1) = omega arith in (negsuc (m - 1), λ w. omega arith, (ds, e, subst (Figure ds) same f))

too_high : (xs : List ℕ) (v : ℕ) → Whole xs v → 32767 < v → (z : ℤ) × (FitsValue z → ⊥) × Amount xs z
too_high xs v (m, f, h) big = (pos m, λ w. omega arith, f)

-- r is the value of z, or says that it has none
abbrev pub Valued : ℤ → Result ℤ FigureFault → Type 0
Valued z r = MatchResult r (λ v. (v ≡ z) × FitsValue z) (λ e. (e ≡ TooLarge) × (FitsValue z → ⊥))

readable : Unreadable ≡ TooLarge → ⊥
readable e = let z : ◌≡◌ {A = ℕ} 0 1 = cc in omega arith

-- with no minus: the value of the figure
pub plain : (xs : List ℕ) (v : ℕ) (z : ℤ) (r : Result ℤ FigureFault) → Whole xs v → z ≡ pos v → Valued z r → Weighed xs r
plain xs v z (Ok x) (m, f, h) is (e, w) =
    let within : FitsValue (pos v) = subst FitsValue is w in
    let same : m ≡ v = omega arith in
    rw (e, is) (within, subst (Figure xs) same f)
plain xs v z (Err TooLarge) whole is (e, out) =
    let large : FitsValue (pos v) → ⊥ = λ w. out (subst FitsValue (sym is) w) in
    too_high xs v whole (omega (arith, large))
plain xs v z (Err Unreadable) whole is (e, out) = absurd (readable e)

-- after a minus: the value of the figure, turned
pub signed : (xs ds : List ℕ) (v : ℕ) (z : ℤ) (r : Result ℤ FigureFault) → xs ≡ 45 ∷ ds → Whole ds v → 0 < v → z ≡ negsuc (v - 1) → Valued z r → Weighed xs r
signed xs ds v z (Ok x) begins (m, f, h) some is (e, w) =
    let within : FitsValue (negsuc (v - 1)) = subst FitsValue is w in
    let same : m ≡ suc (v - 1) = omega arith in
    rw (e, is) (within, (ds, begins, subst (Figure ds) same f))
signed xs ds v z (Err TooLarge) begins whole some is (e, out) =
    let large : FitsValue (negsuc (v - 1)) → ⊥ = λ w. out (subst FitsValue (sym is) w) in
    too_low xs ds v begins whole (omega (arith, large))
signed xs ds v z (Err Unreadable) begins whole some is (e, out) = absurd (readable e)

-- the numbers as the code has them
pub kept : (z : ℤ) (n : ℕ) → z ≡ pos n → n ≤ 65536 → to_z w64 (of_z w64 z) ≡ pos n
kept z n e small = rw e (omega (arith, ints))

pub negated : (z : ℤ) (n : ℕ) → z ≡ pos n → 0 < n → n ≤ 65536 → to_z w64 (of_z w64 (pos 0 -ℤ to_z w64 (of_z w64 z))) ≡ negsuc (n - 1)
negated z n e some small = rw e (omega (arith, ints))
