-- Lines that begin with a word.
use Rattle.std.proofs.Common.{◌≡◌, ℕ, ◌+◌, ◌-◌, ◌≤◌, List, [], ◌∷◌, ◌++◌, length, get_or, take, drop, sym, ap, ◌∙◌, append-nil, arith, length-drop}
use Rattle.std.proofs.lemmas.List.{drop_more, drop_all, take_all}

-- the bytes of the word stand in xs from i on
abbrev pub At : List ℕ → ℕ → List ℕ → Type 0
At xs i [] = Unit {0}
At xs i (c ∷ cs) = (get_or xs i 0 ≡ c) × At xs (i + 1) cs

parted : (xs word : List ℕ) (i : ℕ) → At xs i word → i + length word ≤ length xs → drop i xs ≡ word ++ drop (i + length word) xs
parted xs [] i h le = let same : i ≡ i + 0 = omega arith in ap (λ k. drop k xs) same
parted xs (c ∷ cs) i (e, h) le =
    let first = drop_more xs i 0 (omega arith) in
    let more = parted xs cs (i + 1) h (omega arith) in
    let same : i + 1 + length cs ≡ i + length (c ∷ cs) = omega arith in
    cc

-- a line that begins with the word
pub begun : (xs word : List ℕ) → At xs 0 word → length word ≤ length xs → xs ≡ word ++ take (length xs - length word) (drop (length word) xs)
begun xs word h le =
    let parts = parted xs word 0 h (omega arith) in
    let same : 0 + length word ≡ length word = omega arith in
    let all = take_all (length xs - length word) (drop (length word) xs) (omega (arith, length-drop (length word) xs)) in
    parts ∙ ap (λ k. word ++ drop k xs) same ∙ ap (λ l. word ++ l) (sym all)

-- a line that is the word
pub spelt : (xs word : List ℕ) → At xs 0 word → length xs ≡ length word → xs ≡ word
spelt xs word h e =
    let parts = parted xs word 0 h (omega arith) in
    parts ∙ ap (λ l. word ++ l) (drop_all (0 + length word) xs (omega arith)) ∙ append-nil word

-- two texts that differ at i
pub apart : (i : ℕ) (xs ys zs : List ℕ) → xs ≡ ys → xs ≡ zs → (get_or ys i 0 ≡ get_or zs i 0 → ⊥) → ⊥
apart i xs ys zs e f other = other (ap (λ l. get_or l i 0) (sym e ∙ f))
