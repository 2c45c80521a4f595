-- Three entries of the last quotient of the first block of two.
use Rattle.std.proofs.Common.{◌≡◌, ℕ, ◌+◌, ◌<◌, ◌&&◌, cond, eqb, leb, ltb, not, List, [], ◌∷◌, length, get_or, Some, refl, ap, ◌∙◌, subst, sym, arith}
use Rattle.std.specs.List.{AllByRecursion as Every}
use Rattle.words.specs.Bits.{bits}
use Rattle.layout.specs.Rule.{quotient, remainder, Sorted, sorted, Entry, laid, layout, reading_at, others, one_if, runend_at, offset_at, many_from}
use Rattle.layout.specs.Format.{block_word, filter_words}
use Rattle.layout.proofs.Inserts.{all_sorted, sorted_sorted}
use Rattle.layout.proofs.Rooms.{room_law}
use Rattle.layout.proofs.Sorts.{length_sorted}
use Rattle.layout.proofs.Bags.{count_law}
use Rattle.filter.specs.Slots.{slot_shown}
use Rattle.examples.specs.Examples.{ThreeOfLast, NoneRefused}
use Rattle.examples.proofs.Accepts.{none_refused}

-- three of them, one by one
pub record Lasts (ps : List ℕ) (a b c : ℕ) : Type 0 where
  pub same : ps ≡ a ∷ b ∷ c ∷ []
  pub first : quotient 8 a ≡ 63
  pub second : quotient 8 b ≡ 63
  pub third : quotient 8 c ≡ 63

lasts_of : (ps : List ℕ) → length ps ≡ 3 → Every (λ p. quotient 8 p ≡ 63) ps → (a : ℕ) × (b : ℕ) × (c : ℕ) × Lasts ps a b c
lasts_of [] e all = absurd (omega (arith, e))
lasts_of (a ∷ []) e all = absurd (omega (arith, e))
lasts_of (a ∷ b ∷ []) e all = absurd (omega (arith, e))
lasts_of (a ∷ b ∷ c ∷ []) e (p, (q, (r, none))) = (a, b, c, record { same = refl; first = p; second = q; third = r })
lasts_of (a ∷ b ∷ c ∷ d ∷ ps) e all = absurd (omega (arith, e))

-- the sorted list of any three
pub lasts : (ps : List ℕ) → ThreeOfLast ps → (a : ℕ) × (b : ℕ) × (c : ℕ) × Lasts (sorted ps) a b c
lasts ps t = lasts_of (sorted ps) (length_sorted ps ∙ t.three) (all_sorted _ ps t.last)

-- slots 63, 64 and 65
abbrev entries : ℕ → ℕ → ℕ → List Entry
entries a b c =
    record { slot = 63; fingerprint = a } ∷ record { slot = 64; fingerprint = b } ∷ record { slot = 65; fingerprint = c } ∷ []

entries_laid : (a b c : ℕ) → quotient 8 a ≡ 63 → quotient 8 b ≡ 63 → quotient 8 c ≡ 63 → laid 8 0 (a ∷ b ∷ c ∷ []) ≡ entries a b c
unfolding laid
entries_laid a b c ea eb ec = rw (ea, eb, ec) refl

pub last_slots : (a b c : ℕ) → quotient 8 a ≡ 63 → quotient 8 b ≡ 63 → quotient 8 c ≡ 63
    → (slot_shown 8 (a ∷ b ∷ c ∷ []) 63 ≡ Some (record { 0 = 63 }, remainder 8 a))
    × (slot_shown 8 (a ∷ b ∷ c ∷ []) 64 ≡ Some (record { 0 = 63 }, remainder 8 b))
    × (slot_shown 8 (a ∷ b ∷ c ∷ []) 65 ≡ Some (record { 0 = 63 }, remainder 8 c))
unfolding laid reading_at
last_slots a b c ea eb ec = rw (ea, eb, ec) (refl, refl, refl)

-- the runend word of the second block, by the three quotients
runend_word : ℕ → ℕ → ℕ → ℕ
runend_word x y z =
    bits (λ i. cond (eqb (64 + i) 63) (one_if (not (eqb y x))) (cond (eqb (64 + i) 64) (one_if (not (eqb z y))) (cond (eqb (64 + i) 65) 1 0))) 64

runend_shown : (a b c : ℕ) → bits (λ i. runend_at 8 (entries a b c) (64 + i)) 64 ≡ runend_word (quotient 8 a) (quotient 8 b) (quotient 8 c)
unfolding runend_word reading_at others
runend_shown a b c = refl

runend_two : runend_word 63 63 63 ≡ 2
unfolding runend_word bits
runend_two = refl

-- its offset, by the three quotients
offset_word : ℕ → ℕ → ℕ → ℕ
offset_word x y z = one_if (leb 64 63 && ltb x 64) + (one_if (leb 64 64 && ltb y 64) + (one_if (leb 64 65 && ltb z 64) + 0))

offset_shown : (a b c : ℕ) → offset_at 8 (entries a b c) 64 ≡ offset_word (quotient 8 a) (quotient 8 b) (quotient 8 c)
unfolding offset_word offset_at
offset_shown a b c = refl

offset_two : offset_word 63 63 63 ≡ 2
unfolding offset_word
offset_two = refl

-- two words of the second block, of any list
second_words : (ps : List ℕ)
    → (get_or (filter_words 8 2 ps) 12 0 ≡ bits (λ i. runend_at 8 (layout 8 ps) (64 + i)) 64)
    × (get_or (filter_words 8 2 ps) 13 0 ≡ offset_at 8 (layout 8 ps) 64)
unfolding filter_words block_word
second_words ps = (refl, refl)

-- the two words of the layout of three
pub last_words : (ps : List ℕ) (a b c : ℕ) → Sorted ps → Lasts ps a b c → (get_or (filter_words 8 2 ps) 12 0 ≡ 2) × (get_or (filter_words 8 2 ps) 13 0 ≡ 2)
last_words ps a b c s t =
    let words = second_words ps in
    let laid_as : layout 8 ps ≡ entries a b c = ap (laid 8 0) (sorted_is ps s ∙ t.same) ∙ entries_laid a b c t.first t.second t.third in
    let runends = runend_shown a b c ∙ rw (t.first, t.second, t.third) runend_two in
    let offset = offset_shown a b c ∙ rw (t.first, t.second, t.third) offset_two in (
      words.0 ∙ ap (λ es. bits (λ i. runend_at 8 es (64 + i)) 64) laid_as ∙ runends,
      words.1 ∙ ap (λ es. offset_at 8 es 64) laid_as ∙ offset,
    )
  where
    sorted_is : (qs : List ℕ) → Sorted qs → sorted qs ≡ qs
    sorted_is qs up = (count_law 0 0 qs).3 up

-- ---- none is refused

three_room : (a b c : ℕ) → quotient 8 a ≡ 63 → quotient 8 b ≡ 63 → quotient 8 c ≡ 63 → Every (λ e. e.slot < 128) (laid 8 0 (a ∷ b ∷ c ∷ []))
three_room a b c ea eb ec = subst (Every (λ e. e.slot < 128)) (sym (entries_laid a b c ea eb ec)) (omega arith, (omega arith, (omega arith, tt)))

three_narrow : (a b c : ℕ) → quotient 8 a ≡ 63 → quotient 8 b ≡ 63 → quotient 8 c ≡ 63 → many_from 8 (a ∷ b ∷ c ∷ []) 64 ≡ 0
three_narrow a b c ea eb ec = rw (ea, eb, ec) refl

pub lasts_accepted : (ps : List ℕ) → ThreeOfLast ps → NoneRefused 2 (sorted ps)
lasts_accepted ps t =
    let (a, b, c, l) = lasts ps t in
    none_refused 2 (sorted ps)
    ((room_law 128 8 (sorted ps) (sorted_sorted ps)).1 (subst (λ qs. Every (λ e. e.slot < 128) (laid 8 0 qs)) (sym l.same) (three_room a b c l.first l.second l.third)))
    (ap (λ qs. many_from 8 qs 64) l.same ∙ three_narrow a b c l.first l.second l.third)
