-- No place is crowded just where the queue serves all.
use Rattle.std.proofs.Common.{◌≡◌, ℕ, zero, suc, ◌+◌, ◌-◌, ◌<◌, ◌≤◌, ap, ◌∙◌, ⊎_elim, arith}
use Rattle.std.proofs.lemmas.Bool.{cases_lt}
use Rattle.layout.specs.Load.{load, Tails, Uncrowded, ServesAll, CrowdingLaw, InsertCrowdingLaw}
use Rattle.layout.proofs.Loads.{load_step, load_none, above_c, raised}

module _ (slots : ℕ) (m from : ℕ → ℕ) (tails : Tails m from) where
  pub room : Uncrowded slots from → (x : ℕ) → x ≤ slots → load m x + from x ≤ slots - x
  room h zero l = omega (arith, load_none m, h 0)
  room h (suc x) l = omega (arith, load_step m x, tails x, h (suc x), room h x (omega arith))

  -- d slots before the end
  back : ServesAll slots m from → (d x : ℕ) → x + d ≡ slots → load m x + from x ≤ slots - x
  back s zero x e = let z : x ≡ slots = omega arith in omega (arith, s.0, s.1, ap (load m) z, ap from z)
  back s (suc d) x e = omega (arith, load_step m x, tails x, back s d (suc x) (omega arith))

  past : ServesAll slots m from → (d : ℕ) → from (slots + d) ≡ 0
  past s zero = let z : slots + 0 ≡ slots = omega arith in ap from z ∙ s.1
  past s (suc d) = let z : suc (slots + d) ≡ slots + suc d = omega arith in omega (arith, tails (slots + d), past s d, ap from z)

  pub served : Uncrowded slots from → ServesAll slots m from
  served h = (omega (arith, room h slots (omega arith)), omega (arith, h slots))

  pub uncrowded : ServesAll slots m from → Uncrowded slots from
  uncrowded s c =
      ⊎_elim (λ (l : slots < c). let z : slots + (c - slots) ≡ c = omega arith in omega (arith, past s (c - slots), ap from z))
      (λ (l : c ≤ slots). omega (arith, back s (slots - c) c (omega arith))) (cases_lt slots c)

pub crowding_law : CrowdingLaw
crowding_law slots m from tails = (served slots m from tails, uncrowded slots m from tails)

-- the tails with one entry more at c: the same past c
pub insert_crowding_law : InsertCrowdingLaw
insert_crowding_law slots m n from more c one tails tails' h = (
  λ u f l e. uncrowded slots n more tails' (omega (arith, (raised m n c one u f).after slots l, (served slots m from tails h).0), e ∙ (served slots m from tails h).1),
  λ full g.
      let s = served slots n more tails' g in
      ⊎_elim (λ (l : c < slots). omega (arith, above_c m n c one slots full slots l (omega arith), s.0))
      (λ (l : slots ≤ c). omega (arith, g c, tails' c, one.here)) (cases_lt c slots),
)
