-- The words and the entries of a filter after calls.
use Rattle.std.proofs.Common.{◌≡◌, ℕ, ◌+◌, List, [], ◌∷◌, get_or, replicate, sym, refl, ap, ◌∙◌, subst, ap₂, arith}
use Rattle.words.specs.Bits.{bits}
use Rattle.layout.specs.Rule.{quotient, remainder, with_one, sorted, laid, layout, reading_at, others, offset_at}
use Rattle.layout.specs.Format.{block_word, filter_words}
use Rattle.layout.specs.Laws.{copies_of}
use Rattle.layout.proofs.Sorts.{count_here, sorted_same_counts}
use Rattle.filter.specs.Filters.{fingerprints}
use Rattle.filter.specs.declared.filter.Filter.{Filter}
use Rattle.examples.specs.Examples.{words_of_blocks, SmallFilter, AfterAdds, AfterTake}

-- the words of a filter of that size by its entries
pub words_by : (f : Filter) (b : ℕ) (ps : List ℕ) → SmallFilter f b → fingerprints f ≡ ps → words_of_blocks f ≡ filter_words 8 b ps
words_by f b ps s e = f.laid ∙ ap₂ (λ r n. filter_words r n (fingerprints f)) s.remainders s.blocks ∙ ap (filter_words 8 b) e

-- a call keeps the size
sized_kept : (f g : Filter) (b : ℕ) → g.plan ≡ f.plan → g.blocks ≡ f.blocks → SmallFilter f b → SmallFilter g b
sized_kept f g b ep eb s = record { quotients = ap (λ p. p.q) ep ∙ s.quotients; remainders = ap (λ p. p.r) ep ∙ s.remainders; blocks = eb ∙ s.blocks }

pub sized_adds : (f g : Filter) (b : ℕ) (ps : List ℕ) → SmallFilter f b → AfterAdds f ps g → SmallFilter g b
sized_adds f g b [] s e = subst (λ x. SmallFilter x b) (sym e) s
sized_adds f g b (p ∷ ps) s (h, one, rest) = sized_adds h g b ps (sized_kept f h b one.plan one.blocks s) rest

pub sized_take : (f g : Filter) (b p : ℕ) → SmallFilter f b → AfterTake f p g → SmallFilter g b
sized_take f g b p s t = sized_kept f g b t.plan t.blocks s

-- the list in front of another, the other way round
turned : List ℕ → List ℕ → List ℕ
turned [] qs = qs
turned (p ∷ ps) qs = turned ps (p ∷ qs)

count_turned : (x : ℕ) (ps qs : List ℕ) → copies_of x (turned ps qs) ≡ copies_of x ps + copies_of x qs
unfolding turned
count_turned x [] qs = omega arith
count_turned x (p ∷ ps) qs = omega (arith, count_turned x ps (p ∷ qs), count_here p x qs, count_here p x ps)

adds_turned : (f g : Filter) (ps qs : List ℕ) → fingerprints f ≡ sorted qs → AfterAdds f ps g → fingerprints g ≡ sorted (turned ps qs)
unfolding turned sorted
adds_turned f g [] qs e same = ap fingerprints same ∙ e
adds_turned f g (p ∷ ps) qs e (h, one, rest) = adds_turned h g ps (p ∷ qs) (one.done.3 ∙ ap (with_one p) e) rest

-- the entries after adds to an empty filter, whatever their order
pub adds_sorted : (f g : Filter) (ps : List ℕ) → fingerprints f ≡ [] → AfterAdds f ps g → fingerprints g ≡ sorted ps
unfolding sorted
adds_sorted f g ps e all =
    adds_turned f g ps [] e all ∙ sorted_same_counts (turned ps []) ps (λ x. omega (arith, count_turned x ps []))

-- ---- computed words

pub empty_words : filter_words 8 1 [] ≡ replicate 11 0
unfolding filter_words block_word bits quotient remainder with_one sorted laid reading_at others offset_at
empty_words = refl

pub three_words : filter_words 8 1 (1287 ∷ 1289 ∷ 1539 ∷ []) ≡ 96 ∷ 192 ∷ 0 ∷ 0x0309_0700_0000_0000 ∷ replicate 7 0
unfolding filter_words block_word bits quotient remainder with_one sorted laid reading_at others offset_at
three_words = refl

pub two_words : filter_words 8 1 (1289 ∷ 1539 ∷ []) ≡ 96 ∷ 96 ∷ 0 ∷ 0x0003_0900_0000_0000 ∷ replicate 7 0
unfolding filter_words block_word bits quotient remainder with_one sorted laid reading_at others offset_at
two_words = refl

-- the offset of each of three blocks, of any list
offset_words : (ps : List ℕ)
    → (get_or (filter_words 8 3 ps) 2 0 ≡ offset_at 8 (layout 8 ps) 0)
    × (get_or (filter_words 8 3 ps) 13 0 ≡ offset_at 8 (layout 8 ps) 64)
    × (get_or (filter_words 8 3 ps) 24 0 ≡ offset_at 8 (layout 8 ps) 128)
unfolding filter_words block_word
offset_words ps = (refl, refl, refl)

many_zeros :
    (offset_at 8 (layout 8 (replicate 150 0)) 0 ≡ 0)
    × (offset_at 8 (layout 8 (replicate 150 0)) 64 ≡ 86)
    × (offset_at 8 (layout 8 (replicate 150 0)) 128 ≡ 22)
unfolding quotient with_one sorted laid offset_at
many_zeros = (refl, refl, refl)

pub long_words :
    (get_or (filter_words 8 3 (replicate 150 0)) 2 0 ≡ 0)
    × (get_or (filter_words 8 3 (replicate 150 0)) 13 0 ≡ 86)
    × (get_or (filter_words 8 3 (replicate 150 0)) 24 0 ≡ 22)
long_words =
    let w = offset_words (replicate 150 0) in
    (w.0 ∙ many_zeros.0, w.1 ∙ many_zeros.1, w.2 ∙ many_zeros.2)
