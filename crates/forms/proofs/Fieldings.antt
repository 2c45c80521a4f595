-- The fields of the forms.
use Rattle.std.proofs.Common.{Option, ◌≡◌, ℕ, ◌<◌, List, [], ◌++◌, length, codes, sym, ap, ◌∙◌, subst, append-nil, arith}
use Rattle.figures.specs.Figures.{Figure, Spaced, Whole, NoWhole}
use Rattle.figures.specs.Numbers.{Glyph}
use Rattle.figures.proofs.Pairs.{tails}
use Rattle.forms.specs.declared.row.Row.{Row}
use Rattle.forms.specs.Rows.{Numbers, Rowed, NoRow}
use Rattle.forms.specs.Shapes.{Couple, Joined}
use Rattle.forms.proofs.Rows.{same_row, ends_nil, ends_as}

pub no_right : (xs rest : List ℕ) (v : ℕ) → Spaced xs v rest → NoWhole rest → (a b : ℕ) → Couple a b xs → ⊥
no_right xs rest v s h a b (l, r, e, f, g) = h b (subst (λ k. Figure k b) (sym (tails xs rest r l v a s f e)) g)

-- one of the two is no glyph number
pub no_couple : (xs rest : List ℕ) (v w : ℕ) → Spaced xs v rest → Whole rest w → (Glyph v × Glyph w → ⊥) → (a : ℕ) × (b : ℕ) × Couple a b xs × (Glyph a × Glyph b → ⊥)
no_couple xs rest v w (ds, n, f, e, k) (m, g, h) out = (n, m, (ds, rest, e, f, g), λ both. out (omega (arith, both.0), omega (arith, both.1)))

pub no_numbers : (xs : List ℕ) → NoRow xs → (gs : List ℕ) → Numbers xs gs → ⊥
no_numbers xs none gs h = none gs xs [] h ends_nil (sym (append-nil xs))

pub no_numbers_rest : (xs rest : List ℕ) (row : Option Row) → Rowed xs row rest → 0 < length rest → (gs : List ℕ) → Numbers xs gs → ⊥
no_numbers_rest xs rest row r some gs h =
    let e = same_row r.shown rest xs [] r.numbers gs r.written r.ends h ends_nil (sym r.whole ∙ sym (append-nil xs)) in
    omega (arith, ap length e)

pub no_joined : (xs : List ℕ) → NoRow xs → (gs : List ℕ) (g : ℕ) → Joined gs g xs → ⊥
no_joined xs none gs g (row, last, e, h, f) = none gs row (codes " as " ++ last) h (ends_as last) e

-- what follows the row begins with `as`, if anything is joined
after_row : (xs rest : List ℕ) (row : Option Row) → Rowed xs row rest → (gs : List ℕ) (g : ℕ) → Joined gs g xs → (last : List ℕ) × (rest ≡ codes " as " ++ last) × Figure last g
after_row xs rest row r gs g (shown, last, e, h, f) =
    (last, same_row r.shown rest shown (codes " as " ++ last) r.numbers gs r.written r.ends h (ends_as last) (sym r.whole ∙ e), f)

pub no_joined_rest : (xs rest : List ℕ) (row : Option Row) → Rowed xs row rest → ((last : List ℕ) → rest ≡ codes " as " ++ last → ⊥) → (gs : List ℕ) (g : ℕ) → Joined gs g xs → ⊥
no_joined_rest xs rest row r none gs g h = let p = after_row xs rest row r gs g h in none p.0 p.1

pub no_joined_last : (xs rest last : List ℕ) (row : Option Row) → Rowed xs row rest → rest ≡ codes " as " ++ last → NoWhole last → (gs : List ℕ) (g : ℕ) → Joined gs g xs → ⊥
no_joined_last xs rest last row r is none gs g h =
    let p = after_row xs rest row r gs g h in
    let there = p.1 in
    let same : p.0 ≡ last = cc in
    none g (subst (λ l. Figure l g) same p.2)
