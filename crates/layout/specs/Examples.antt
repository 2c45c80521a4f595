-- Fingerprints 6, 1, 0, 5, 4 and 17 with remainders of 2 bits: quotients 1, 0, 0, 1, 1 and 4. The run of 1 starts in slot 2, and takes slot 4 from quotient 4.
use Rattle.std.specs.Prelude.{◌≡◌, ℕ, List, [], ◌∷◌, map}
use Rattle.layout.specs.Rule.{layout, used_at, remainder_at, runend_at, offset_at, occupied_at, many_from}
use Rattle.layout.specs.Laws.{read_from}

abbrev pub six : List ℕ
six = 6 ∷ 1 ∷ 0 ∷ 5 ∷ 4 ∷ 17 ∷ []

abbrev pub upto : (ℕ → ℕ) → List ℕ
upto f = map f (0 ∷ 1 ∷ 2 ∷ 3 ∷ 4 ∷ 5 ∷ 6 ∷ [])

pub record Example : Type 0 where
  pub slots : map (λ e. e.slot) (layout 2 six) ≡ 0 ∷ 1 ∷ 2 ∷ 3 ∷ 4 ∷ 5 ∷ []
  pub fingerprints : map (λ e. e.fingerprint) (layout 2 six) ≡ 0 ∷ 1 ∷ 4 ∷ 5 ∷ 6 ∷ 17 ∷ []
  pub occupied : upto (occupied_at 2 six) ≡ 1 ∷ 1 ∷ 0 ∷ 0 ∷ 1 ∷ 0 ∷ 0 ∷ []
  pub runends : upto (runend_at 2 (layout 2 six)) ≡ 0 ∷ 1 ∷ 0 ∷ 0 ∷ 1 ∷ 1 ∷ 0 ∷ []
  pub used : upto (used_at (layout 2 six)) ≡ 1 ∷ 1 ∷ 1 ∷ 1 ∷ 1 ∷ 1 ∷ 0 ∷ []
  pub remainders : upto (remainder_at 2 (layout 2 six)) ≡ 0 ∷ 1 ∷ 0 ∷ 1 ∷ 2 ∷ 1 ∷ 0 ∷ []
  pub offsets : upto (offset_at 2 (layout 2 six)) ≡ 0 ∷ 1 ∷ 3 ∷ 2 ∷ 1 ∷ 1 ∷ 0 ∷ []
  pub from : upto (many_from 2 six) ≡ 6 ∷ 4 ∷ 1 ∷ 1 ∷ 1 ∷ 0 ∷ 0 ∷ []
  pub back : read_from 7 2 (occupied_at 2 six) (remainder_at 2 (layout 2 six)) (runend_at 2 (layout 2 six)) 8 0 0 ≡ 0 ∷ 1 ∷ 4 ∷ 5 ∷ 6 ∷ 17 ∷ []
