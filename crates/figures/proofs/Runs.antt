-- A run of digits and what follows it.
use Rattle.std.proofs.Common.{◌≡◌, ℕ, ◌-◌, ◌<◌, ◌⊎◌, List, [], ◌∷◌, ◌++◌, length, get_or, take, drop, sym, refl, ap, ◌∙◌, subst, ⊎_elim, append-nil, arith}
use Rattle.std.specs.Str.Parse.{AllDigits}
use Rattle.std.proofs.lemmas.Str.Parse.{digit_from_value}
use Rattle.std.proofs.lemmas.Slice.{first_rest}
use Rattle.figures.specs.Figures.{Figure, Stops, Read, NoFigure, NoWhole}

-- digits, and then what begins with no digit: there is one such cut
pub same_run : (ds es r s : List ℕ) → AllDigits 10 ds → AllDigits 10 es → Stops r → Stops s → ds ++ r ≡ es ++ s → (ds ≡ es) × (r ≡ s)
same_run [] [] r s p q u v e = (refl, e)
same_run [] (c ∷ es) r s p q u v e = let d = digit_from_value c q.0 in absurd (subst Stops e u d.0 d.1)
same_run (c ∷ ds) [] r s p q u v e = let d = digit_from_value c p.0 in absurd (subst Stops (sym e) v d.0 d.1)
same_run (c ∷ ds) (b ∷ es) r s p q u v e =
    let first : c ≡ b = cc in
    let tail : ds ++ r ≡ es ++ s = cc in
    let more = same_run ds es r s p.1 q.1 u v tail in
    let ones = more.0 in
    (cc, more.1)

-- no digit comes first, or a zero in front of another digit
pub no_figure : (xs digits rest : List ℕ) → xs ≡ digits ++ rest → AllDigits 10 digits → Stops rest → (length digits ≡ 0) ⊎ ((1 < length digits) × (get_or digits 0 0 ≡ 48)) → NoFigure xs
no_figure xs digits rest whole p u why ds n more f v e =
    let same = (same_run ds digits more rest f.digits p v u (sym e ∙ whole)).0 in
    let long = ap length same in
    ⊎_elim
    (λ z. omega (arith, f.some))
    (λ h. omega (arith, h.0, f.lead (ap (λ l. get_or l 0 0) same ∙ h.1)))
    why

pub no_whole : (xs : List ℕ) → NoFigure xs → NoWhole xs
no_whole xs h n f = h xs n [] f tt (sym (append-nil xs))

pub no_whole_rest : (xs rest : List ℕ) (v : ℕ) → Read xs v rest → 0 < length rest → NoWhole xs
no_whole_rest xs rest v r more n f =
    let e = (same_run r.shown xs rest [] r.figure.digits f.digits r.stops tt (sym r.whole ∙ sym (append-nil xs))).1 in
    omega (arith, ap length e)

-- a figure begins with no minus
pub not_minus : (xs ds : List ℕ) (n : ℕ) → Figure xs n → xs ≡ 45 ∷ ds → ⊥
not_minus xs ds n f e = let d = (subst (AllDigits 10) e f.digits).0 in omega (arith, (digit_from_value 45 d).0)

-- a space ends a run of digits
pub space_stops : (rest : List ℕ) → Stops (32 ∷ rest)
space_stops rest p q = omega arith

-- the first byte is c, or it is not
pub begins : (xs : List ℕ) (c : ℕ) → 0 < length xs → get_or xs 0 0 ≡ c → xs ≡ c ∷ take (length xs - 1) (drop 1 xs)
begins xs c some e = let h = first_rest xs 0 some in cc

pub not_begun : (xs : List ℕ) (c : ℕ) → (0 < length xs → get_or xs 0 0 ≡ c → ⊥) → (ds : List ℕ) → xs ≡ c ∷ ds → ⊥
not_begun [] c h ds e = omega (arith, ap length e)
not_begun (x ∷ xs) c h ds e = let f : x ≡ c = cc in h (omega arith) f
