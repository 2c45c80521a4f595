-- Bytes write one number, one value, and one pair with a value.
use Rattle.std.proofs.Common.{◌≡◌, ℕ, suc, List, [], ◌∷◌, ◌++◌, length, ℤ, pos, negsuc, sym, refl, ap, ◌∙◌, subst, append-nil, arith}
use Rattle.figures.specs.Figures.{Figure}
use Rattle.figures.specs.Amounts.{Amount, PairLine}
use Rattle.figures.proofs.Runs.{same_run, space_stops, not_minus}

pub figure_one : (ds : List ℕ) (n m : ℕ) → Figure ds n → Figure ds m → n ≡ m
figure_one ds n m f g = sym f.number ∙ g.number

pub amount_one : (v : List ℕ) (y z : ℤ) → Amount v y → Amount v z → y ≡ z
amount_one v (pos n) (pos m) f g = ap pos (figure_one v n m f g)
amount_one v (pos n) (negsuc m) f (ds, e, g) = absurd (not_minus v ds n f e)
amount_one v (negsuc n) (pos m) (ds, e, f) g = absurd (not_minus v ds m g e)
amount_one v (negsuc n) (negsuc m) (ds, e, f) (es, h, g) =
    let digits : es ≡ ds = cc in
    let number : suc n ≡ suc m = figure_one ds (suc n) (suc m) f (subst (λ l. Figure l (suc m)) digits g) in
    let same : n ≡ m = cc in
    ap negsuc same

-- a figure before a space: there is one such cut
pub same_cut : (xs ds es r s : List ℕ) (n m : ℕ) → Figure ds n → Figure es m → xs ≡ ds ++ (32 ∷ r) → xs ≡ es ++ (32 ∷ s) →
    (n ≡ m) × (r ≡ s)
same_cut xs ds es r s n m f g e h =
    let same = same_run ds es (32 ∷ r) (32 ∷ s) f.digits g.digits (space_stops r) (space_stops s) (sym e ∙ h) in
    let tail : 32 ∷ r ≡ 32 ∷ s = same.1 in
    (figure_one es n m (subst (λ l. Figure l n) same.0 f) g, cc)

-- a figure has no space in it
pub no_space : (xs ds rest : List ℕ) (n m : ℕ) → Figure xs n → Figure ds m → xs ≡ ds ++ (32 ∷ rest) → ⊥
no_space xs ds rest n m f g e =
    let same = same_run xs ds [] (32 ∷ rest) f.digits g.digits tt (space_stops rest) (append-nil xs ∙ e) in
    omega (arith, ap length same.1)

pub pair_line_one : (xs : List ℕ) (a b c d : ℕ) (y z : ℤ) → PairLine xs a b y → PairLine xs c d z → (a ≡ c) × (b ≡ d) × (y ≡ z)
pair_line_one xs a b c d y z p q =
    let first = same_cut xs p.l q.l (p.r ++ (32 ∷ p.v)) (q.r ++ (32 ∷ q.v)) a c p.left q.left p.whole q.whole in
    let second = same_cut (p.r ++ (32 ∷ p.v)) p.r q.r p.v q.v b d p.right q.right refl first.1 in
    (first.0, second.0, amount_one q.v y z (subst (λ l. Amount l y) second.1 p.value) q.value)
