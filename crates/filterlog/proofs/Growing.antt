-- A log that is run line by line.
use Rattle.std.proofs.Common.{◌≡◌, ℕ, List, [], ◌∷◌, ◌++◌, refl, sym, subst, ap, ◌∙◌, append-nil, append_assoc}
use Rattle.filter.specs.declared.filter.Filter.{Filter}
use Rattle.filterlog.specs.Runs.{LineRan, LinesRan}

-- the lines up to those that are left were run on filter f, which is g now, and answered the text
abbrev pub Sofar : List (List ℕ) → List (List ℕ) → Filter → Filter → List ℕ → Type 0
Sofar all left f g text = (answered : List (List ℕ)) × (all ≡ answered ++ left) × LinesRan answered f g text

pub sofar_none : (all : List (List ℕ)) (f : Filter) → Sofar all all f f []
unfolding LinesRan
sofar_none all f = ([], refl, (refl, refl))

-- one more line is run
pub lines_more : (lines : List (List ℕ)) (line : List ℕ) (f g h : Filter) (text last : List ℕ) → LinesRan lines f g text → LineRan line g h last → LinesRan (lines ++ (line ∷ [])) f h (text ++ last)
unfolding LinesRan
lines_more [] line f g h text last (same, none) ran =
    (h, last, [], subst (λ f. LineRan line f h last) same ran, (refl, refl), ap (λ xs. xs ++ last) none ∙ sym (append-nil last))
lines_more (first ∷ lines) line f g h text last (z, one, more, ran_first, ran_more, e) ran =
    (z, one, more ++ last, ran_first, lines_more lines line z g h more last ran_more ran, ap (λ xs. xs ++ last) e ∙ append_assoc one more last)

pub sofar_more : (all left rest : List (List ℕ)) (line : List ℕ) (f g h : Filter) (text last : List ℕ)
    → Sofar all left f g text → left ≡ line ∷ rest → LineRan line g h last → Sofar all rest f h (text ++ last)
sofar_more all left rest line f g h text last (answered, lines, ran) e does =
    (answered ++ (line ∷ []), lines ∙ ap (λ ls. answered ++ ls) e ∙ sym (append_assoc answered (line ∷ []) rest), lines_more answered line f g h text last ran does)

pub sofar_all : (lines all left : List (List ℕ)) (f g : Filter) (text : List ℕ) → Sofar all left f g text → all ≡ lines → left ≡ [] → LinesRan lines f g text
sofar_all lines all left f g text (answered, whole, ran) same none =
    subst (λ ls. LinesRan ls f g text) (sym (append-nil answered) ∙ sym (ap (λ ls. answered ++ ls) none) ∙ sym whole ∙ same) ran
