-- Which place is selected.
use Rattle.std.proofs.Common.{◌≡◌, ℕ, suc, ◌+◌, ◌<◌, ◌↔◌, Some, None, Option, sym, refl, ap, subst, inl, inr, arith}
use Rattle.std.specs.Int.{bit_at}
use Rattle.words.specs.Bits.{ones_under, Selected}
use Rattle.words.proofs.Ones.{ones_mono}
use Rattle.blocks.proofs.Tallies.{ones_step}

ones_at : (ones_under 192 7 ≡ 1) × (ones_under 192 8 ≡ 2) × (ones_under 192 64 ≡ 2)
unfolding ones_under
ones_at = (refl, refl, refl)

pub rank_five : ones_under 96 6 ≡ 1
unfolding ones_under
rank_five = refl

not_below : (p : ℕ) → ones_under 192 p + 1 ≡ 2 → bit_at 192 p ≡ 1 → ¬ (p < 7)
not_below p e b l = omega (arith, ones_mono 192 (suc p) 7 l, ones_at.0, ones_step 192 p)

not_above : (p : ℕ) → ones_under 192 p + 1 ≡ 2 → ¬ (7 < p)
not_above p e l = omega (arith, ones_mono 192 8 p l, ones_at.1)

place_seven : (p : ℕ) → ones_under 192 p + 1 ≡ 2 → bit_at 192 p ≡ 1 → p ≡ 7
place_seven p e b = omega (arith, not_below p e b, not_above p e)

second_to : (o : Option ℕ) → Selected 192 2 o → o ≡ Some 7
second_to (Some p) (l, b, e) = ap Some (place_seven p e b)
second_to None (inl e) = absurd (omega arith)
second_to None (inr l) = absurd (omega (arith, ones_at.2))

pub select_second : (o : Option ℕ) → Selected 192 2 o ↔ (o ≡ Some 7)
select_second o = (second_to o, λ e. subst (Selected 192 2) (sym e) (omega arith, refl, omega (arith, ones_at.0)))

third_to : (o : Option ℕ) → Selected 192 3 o → o ≡ None
third_to (Some p) (l, b, e) = absurd (omega (arith, ones_mono 192 (suc p) 64 l, ones_at.2, ones_step 192 p))
third_to None a = refl

pub select_third : (o : Option ℕ) → Selected 192 3 o ↔ (o ≡ None)
select_third o = (third_to o, λ e. subst (Selected 192 3) (sym e) (inr (omega (arith, ones_at.2))))
