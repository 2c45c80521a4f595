-- The first line of a text.
use Rattle.std.proofs.Common.{◌≡◌, ℕ, suc, ◌<◌, List, [], ◌∷◌, ◌++◌, length, sym, refl, ap, ◌∙◌, ⊎_elim, arith, length-append}
use Rattle.std.proofs.lemmas.Bool.{ne_eqb}
use Rattle.figures.specs.Lines.{Clear, Leads, grown, lines_of}

-- what follows a line is shorter, so a loop over the lines ends
pub shorter : (xs line rest : List ℕ) → Leads xs line rest → length rest < length xs
shorter xs line rest h =
    ⊎_elim
    (λ e. omega (arith, simp length-append at (ap length e)))
    (λ p. omega (arith, ap length p.0, ap length p.1, p.2))
    h.parts

-- a byte other than 10 in front of a text
other_first : (c : ℕ) (cs : List ℕ) → (c ≡ 10 → ⊥) → lines_of (c ∷ cs) ≡ grown c (lines_of cs)
unfolding lines_of
other_first c cs h = rw (ne_eqb c 10 h)

lines_before : (line rest : List ℕ) → Clear line → lines_of (line ++ (10 ∷ rest)) ≡ line ∷ lines_of rest
unfolding lines_of
lines_before [] rest clear = refl
lines_before (c ∷ cs) rest clear =
    other_first c (cs ++ (10 ∷ rest)) (λ e. clear 0 (omega arith) e)
    ∙ ap (grown c) (lines_before cs rest (λ i h e. clear (suc i) (omega arith) e))

lines_last : (line : List ℕ) → Clear line → 0 < length line → lines_of line ≡ line ∷ []
unfolding lines_of
lines_last [] clear some = absurd (omega arith)
lines_last (c ∷ []) clear some = other_first c [] (λ e. clear 0 (omega arith) e)
lines_last (c ∷ (d ∷ ds)) clear some =
    other_first c (d ∷ ds) (λ e. clear 0 (omega arith) e)
    ∙ ap (grown c) (lines_last (d ∷ ds) (λ i h e. clear (suc i) (omega arith) e) (omega arith))

-- the first line, and the lines of what follows it
pub first_line : (xs line rest : List ℕ) → Leads xs line rest → lines_of xs ≡ line ∷ lines_of rest
unfolding lines_of
first_line xs line rest h =
    ⊎_elim
    (λ e. ap lines_of e ∙ lines_before line rest h.clear)
    (λ (e, none, some). ap lines_of e ∙ lines_last line h.clear some ∙ ap (λ l. line ∷ lines_of l) (sym none))
    h.parts

pub no_line : (xs : List ℕ) → xs ≡ [] → lines_of xs ≡ []
unfolding lines_of
no_line xs e = ap lines_of e
