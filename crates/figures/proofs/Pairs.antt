-- Figures parted by spaces.
use Rattle.std.proofs.Common.{◌≡◌, ℕ, ◌<◌, ◌⊎◌, List, ◌∷◌, ◌++◌, ℤ, Err, sym, ap, ◌∙◌, subst, inl, inr, ⊎_elim, arith}
use Rattle.figures.specs.declared.FigureFault.{FigureFault}
use Rattle.figures.specs.declared.FigureFault.TheVariants.{Unreadable, TooLarge}
use Rattle.figures.specs.Figures.{Figure, Read, NoFigure, Spaced, NoSpaced}
use Rattle.figures.specs.Amounts.{Amount, Weighed, PairLine, Paired}
use Rattle.figures.proofs.Runs.{same_run, space_stops}

pub spaced_none : (xs : List ℕ) → NoFigure xs → NoSpaced xs
spaced_none xs h ds n rest f e = h ds n (32 ∷ rest) f (space_stops rest) e

pub spaced_other : (xs rest : List ℕ) (v : ℕ) → Read xs v rest → ((ys : List ℕ) → rest ≡ 32 ∷ ys → ⊥) → NoSpaced xs
spaced_other xs rest v r h ds n tail f e = h tail (same_run r.shown ds rest (32 ∷ tail) r.figure.digits f.digits r.stops (space_stops tail) (sym r.whole ∙ e)).1

-- what follows the space is the same, however the figure is read
pub tails : (xs rest tail ds : List ℕ) (v n : ℕ) → Spaced xs v rest → Figure ds n → xs ≡ ds ++ (32 ∷ tail) → rest ≡ tail
tails xs rest tail ds v n (es, m, g, p, q) f e =
    let same = (same_run es ds (32 ∷ rest) (32 ∷ tail) g.digits f.digits (space_stops rest) (space_stops tail) (sym p ∙ e)).1 in
    cc

pub bad_right : (xs rest : List ℕ) (v : ℕ) → Spaced xs v rest → NoSpaced rest → (a b : ℕ) (z : ℤ) → PairLine xs a b z → ⊥
bad_right xs rest v s h a b z p = h p.r b p.v p.right (tails xs rest (p.r ++ (32 ∷ p.v)) p.l v a s p.left p.whole)

bad_value : (xs rest more : List ℕ) (v w : ℕ) → Spaced xs v rest → Spaced rest w more → ((z : ℤ) → Amount more z → ⊥) → (a b : ℕ) (z : ℤ) → PairLine xs a b z → ⊥
bad_value xs rest more v w s t h a b z p =
    let first = tails xs rest (p.r ++ (32 ∷ p.v)) p.l v a s p.left p.whole in
    let second = tails rest more p.v p.r w b t p.right first in
    h z (subst (λ l. Amount l z) (sym second) p.value)

pub paired : (xs rest more : List ℕ) (v w : ℕ) (z : ℤ) → (s : Spaced xs v rest) (t : Spaced rest w more) → Amount more z → PairLine xs s.1 t.1 z
paired xs rest more v w z (ds, n, f, e, h) (es, m, g, p, q) k =
    record { l = ds; r = es; v = more; whole = e ∙ ap (λ l. ds ++ (32 ∷ l)) p; left = f; right = g; value = k }

pub value_fault : (xs rest more : List ℕ) (v w : ℕ) (e : FigureFault) → Spaced xs v rest → Spaced rest w more → Weighed more (Err e) → Paired xs (Err e)
value_fault xs rest more v w Unreadable s t h = bad_value xs rest more v w s t h
value_fault xs rest more v w TooLarge s t (z, out, k) = (s.1, t.1, z, paired xs rest more v w z s t k, inr (inr out))

pub too_large : (xs rest more : List ℕ) (v w : ℕ) (z : ℤ) → Spaced xs v rest → Spaced rest w more → Amount more z → (65535 < v) ⊎ (65535 < w) → Paired xs (Err TooLarge)
too_large xs rest more v w z s t k why =
    (s.1, t.1, z, paired xs rest more v w z s t k, ⊎_elim (λ h. inl (omega (arith, s.4))) (λ h. inr (inl (omega (arith, t.4)))) why)
