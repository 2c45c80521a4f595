-- How a list is written, number by number.
use Rattle.std.proofs.Common.{◌≡◌, ℕ, List, [], ◌∷◌, ◌++◌, flat_map, sym, ap, ◌∙◌, append-nil, append_assoc}
use Rattle.std.specs.Fmt.{decimal}
use Rattle.filterlog.specs.Answers.{list_text}

joined : (ds each end : List ℕ) → ds ++ (32 ∷ (each ++ end)) ≡ ((ds ++ (32 ∷ [])) ++ each) ++ end
joined ds each end = sym (append_assoc (ds ++ (32 ∷ [])) each end ∙ append_assoc ds (32 ∷ []) (each ++ end))

-- each number behind its space, or before it
spaced : (ns : List ℕ) (last : ℕ) → flat_map (λ (n : ℕ). 32 ∷ decimal n) (ns ++ (last ∷ [])) ++ (10 ∷ []) ≡ 32 ∷ (flat_map (λ (n : ℕ). decimal n ++ (32 ∷ [])) ns ++ (decimal last ++ (10 ∷ [])))
spaced [] last = ap (λ xs. 32 ∷ (xs ++ (10 ∷ []))) (append-nil (decimal last))
spaced (n ∷ ns) last =
    let more = flat_map (λ (n : ℕ). 32 ∷ decimal n) (ns ++ (last ∷ [])) in
    let each = flat_map (λ (n : ℕ). decimal n ++ (32 ∷ [])) ns in
    let end = decimal last ++ (10 ∷ []) in
    ap (λ xs. 32 ∷ xs) (append_assoc (decimal n) more (10 ∷ []) ∙ ap (λ xs. decimal n ++ xs) (spaced ns last) ∙ joined (decimal n) each end)

-- a list whose last number is known
pub list_last : (ns : List ℕ) (last : ℕ) → list_text (ns ++ (last ∷ [])) ≡ flat_map (λ (n : ℕ). decimal n ++ (32 ∷ [])) ns ++ (decimal last ++ (10 ∷ []))
list_last [] last = ap (λ xs. xs ++ (10 ∷ [])) (append-nil (decimal last))
list_last (n ∷ ns) last =
    let more = flat_map (λ (n : ℕ). 32 ∷ decimal n) (ns ++ (last ∷ [])) in
    let each = flat_map (λ (n : ℕ). decimal n ++ (32 ∷ [])) ns in
    let end = decimal last ++ (10 ∷ []) in
    append_assoc (decimal n) more (10 ∷ []) ∙ ap (λ xs. decimal n ++ xs) (spaced ns last) ∙ joined (decimal n) each end
