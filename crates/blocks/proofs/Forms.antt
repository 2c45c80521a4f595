-- The words of a layout, word by word, and what they show are the same thing.
use Rattle.std.proofs.Common.{◌≡◌, ℕ, ◌+◌, ◌-◌, ◌*◌, ◌/◌, ◌%◌, ◌^◌, ◌<◌, ◌≤◌, Bool, true, false, cond, eqb, ◌≢◌, List, [], ◌∷◌, length, get_or, sym, refl, ap, ◌∙◌, ap₂, ⊎_elim, mul-le-mul_right, mod-lt, div-add-mod', arith, pow_pos}
use native.Mathlib.Nat.{zero-div}
use lib.Arith.{digits_div, digits_mod}
use Rattle.std.proofs.lemmas.List.FromFn.{fill_by_all, length-map-range_with_len, get_or-map-range_with_len}
use Rattle.std.proofs.lemmas.List.{get_or_past}
use Rattle.std.proofs.lemmas.Bool.{cases_lt, cases_eq, cond-false, ne_eqb}
use Rattle.std.specs.Int.{bit_at}
use Rattle.words.specs.Bits.{bits}
use Rattle.words.specs.Row.{long_number}
use Rattle.words.proofs.Fields.{bits_lt, bit_at-bits, bits_one, bit_lt, field_lt, bit_field}
use Rattle.words.proofs.Rows.{Words, bit_row}
use Rattle.layout.specs.Rule.{one_if, quotient, remainder, sorted, Entry, layout, reading_at, others, occupied_at, runend_at, offset_at, remainder_at, Roomy}
use Rattle.layout.specs.Format.{row_bit, block_word, filter_words}
use Rattle.layout.specs.Laws.{WithinSlots}
use Rattle.layout.proofs.Inserts.{sorted_sorted}
use Rattle.layout.proofs.Formats.{occupied_sorted}
use Rattle.layout.proofs.Bounds.{within_law}
use Rattle.blocks.specs.Views.{word_index, remainder_place, occupied_bit_in, runend_in, offset_in, remainder_in, Shows}
use Rattle.blocks.proofs.Parts.{next, row_room}

bit_two : (b : Bool) → one_if b < 2
bit_two true = omega arith
bit_two false = omega arith

cond_below : (b : Bool) (x y n : ℕ) → x < n → y < n → cond b x y < n
cond_below true x y n h k = h
cond_below false x y n h k = k

pub bit_of_none : (i : ℕ) → bit_at 0 i ≡ 0
bit_of_none i = ap (λ x. x % 2) (zero-div (2 ^ i))

-- what all f are below, any slot is below
at_below : (n : ℕ) (f : ℕ → List Entry → ℕ) → 0 < n → ((p : ℕ) (es : List Entry) → f p es < n) → (es : List Entry) (s : ℕ) → reading_at f 0 es s < n
unfolding reading_at
at_below n f pos h [] s = pos
at_below n f pos h (e ∷ es) s = elim (eqb s e.slot) as (λ b. cond b (f e.fingerprint es) (reading_at f 0 es s) < n) [ true ↦ h e.fingerprint es | false ↦ at_below n f pos h es s ]

runend_two : (r : ℕ) (es : List Entry) (s : ℕ) → runend_at r es s < 2
runend_two r es s = at_below 2 (λ p later. one_if (others r (quotient r p) later)) (omega arith) (λ p later. bit_two (others r (quotient r p) later)) es s

remainder_small : (r : ℕ) (es : List Entry) (s : ℕ) → remainder_at r es s < 2 ^ r
unfolding remainder
remainder_small r es s = at_below (2 ^ r) (λ p later. remainder r p) (pow_pos r) (λ p later. mod-lt p (pow_pos r)) es s

-- place n of a row of slots of r bits, in the block that begins at word k
row_place : (r b n : ℕ) → 0 < r → n < 64 * r → (n / r < 64) × (remainder_place r (64 * b + n / r) + n % r ≡ 64 * word_index r b 3 + n)
row_place r b n pos l =
    let whole = div-add-mod' n r in
    let slot : n / r < 64 = ⊎_elim (λ (g : n / r < 64). g) (λ (g : 64 ≤ n / r). absurd (omega (arith, mul-le-mul_right r g))) (cases_lt (n / r) 64) in
    let block : (64 * b + n / r) / 64 ≡ b = omega arith in
    let inner : (64 * b + n / r) % 64 ≡ n / r = omega arith in
    (slot, omega (arith, ap (λ x. x * (r + 3)) block, ap (λ x. x * r) inner))

module _ (r : ℕ) (ps : List ℕ) (pos : 0 < r) where
  -- the words of a block by their kinds
  first_word : (b : ℕ) → block_word r ps b 0 ≡ bits (λ i. occupied_at r ps (64 * b + i)) 64
  unfolding block_word
  first_word b = refl

  second_word : (b : ℕ) → block_word r ps b 1 ≡ bits (λ i. runend_at r (layout r ps) (64 * b + i)) 64
  unfolding block_word
  second_word b = refl

  third_word : (b : ℕ) → block_word r ps b 2 ≡ offset_at r (layout r ps) (64 * b)
  unfolding block_word
  third_word b = refl

  row_word : (b m : ℕ) → 3 ≤ m → block_word r ps b m ≡ bits (λ i. row_bit r ps b (64 * (m - 3) + i)) 64
  unfolding block_word
  row_word b m l =
      cond-false (eqb m 0) _ _ (ne_eqb m 0 (λ e. omega arith)) ∙ cond-false (eqb m 1) _ _ (ne_eqb m 1 (λ e. omega arith))
      ∙ cond-false (eqb m 2) _ _ (ne_eqb m 2 (λ e. omega arith))

  row_two : (b m i : ℕ) → row_bit r ps b (64 * (m - 3) + i) < 2
  row_two b m i = bit_lt (remainder_at r (layout r ps) (64 * b + (64 * (m - 3) + i) / r)) ((64 * (m - 3) + i) % r)

  -- ---- from what the words show to the words

  module _ (ws : List ℕ) (all : Words ws) (shows : Shows r ws (sorted ps)) where
    -- a word with the bits of f
    by_bits : (k : ℕ) (f : ℕ → ℕ) → ((i : ℕ) → f i < 2) → ((i : ℕ) → i < 64 → bit_at (get_or ws k 0) i ≡ f i) → get_or ws k 0 ≡ bits f 64
    by_bits k f two h = bits_one (get_or ws k 0) (bits f 64) 64 (all k) (bits_lt f 64 (λ i l. two i)) (λ i l. h i l ∙ sym (bit_at-bits f 64 i (λ j l. two j) l))

    word_shown : (b m : ℕ) → m < r + 3 → get_or ws (word_index r b m) 0 ≡ block_word r ps b m
    unfolding occupied_bit_in runend_in offset_in remainder_in
    word_shown b m l = ⊎_elim
        (λ (e : m ≡ 0). ap (λ n. get_or ws (word_index r b n) 0) e
        ∙ by_bits (word_index r b 0) (λ i. occupied_at r ps (64 * b + i)) (λ i. bit_two _) (λ i g.
        let block : (64 * b + i) / 64 ≡ b = omega arith in
        let inner : (64 * b + i) % 64 ≡ i = omega arith in
        sym (ap₂ (λ x y. bit_at (get_or ws (word_index r x 0) 0) y) block inner) ∙ shows.occupied (64 * b + i) ∙ occupied_sorted r ps (64 * b + i))
        ∙ sym (first_word b) ∙ ap (block_word r ps b) (sym e))
        (λ (n0 : m ≢ 0). ⊎_elim
        (λ (e : m ≡ 1). ap (λ n. get_or ws (word_index r b n) 0) e
        ∙ by_bits (word_index r b 1) (λ i. runend_at r (layout r ps) (64 * b + i)) (λ i. runend_two r (layout r ps) (64 * b + i)) (λ i g.
        let block : (64 * b + i) / 64 ≡ b = omega arith in
        let inner : (64 * b + i) % 64 ≡ i = omega arith in
        sym (ap₂ (λ x y. bit_at (get_or ws (word_index r x 1) 0) y) block inner) ∙ shows.runends (64 * b + i))
        ∙ sym (second_word b) ∙ ap (block_word r ps b) (sym e))
        (λ (n1 : m ≢ 1). ⊎_elim
        (λ (e : m ≡ 2). ap (λ n. get_or ws (word_index r b n) 0) e ∙ shows.offsets b ∙ sym (third_word b) ∙ ap (block_word r ps b) (sym e))
        (λ (n2 : m ≢ 2).
        let three : 3 ≤ m = omega arith in
        by_bits (word_index r b m) (λ i. row_bit r ps b (64 * (m - 3) + i)) (row_two b m) (λ i g.
        let n : ℕ = 64 * (m - 3) + i in
        let short : n < 64 * r = omega arith in
        let lies = row_place r b n pos short in
        let whole : remainder_place r (64 * b + n / r) + n % r ≡ 64 * word_index r b m + i = omega (arith, lies.1) in
        let word : (64 * word_index r b m + i) / 64 ≡ word_index r b m = omega arith in
        let inner : (64 * word_index r b m + i) % 64 ≡ i = omega arith in
        sym (ap₂ (λ x y. bit_at (get_or ws x 0) y) word inner) ∙ sym (bit_row ws all (64 * word_index r b m + i))
        ∙ sym (ap (bit_at (long_number ws)) whole) ∙ sym (bit_field (long_number ws) (remainder_place r (64 * b + n / r)) r (n % r) (mod-lt n pos))
        ∙ ap (λ x. bit_at x (n % r)) (shows.remainders (64 * b + n / r)))
        ∙ sym (row_word b m three)) (cases_eq m 2)) (cases_eq m 1)) (cases_eq m 0)

    pub words_from_views : (blocks : ℕ) → length ws ≡ blocks * (r + 3) → ws ≡ filter_words r blocks ps
    unfolding filter_words
    words_from_views blocks len =
        fill_by_all (λ k. block_word r ps (k / (r + 3)) (k % (r + 3))) ws (blocks * (r + 3)) 0 len (λ k l.
        let size : 0 < r + 3 = omega arith in
        sym (ap (λ x. get_or ws x 0) (div-add-mod' k (r + 3))) ∙ word_shown (k / (r + 3)) (k % (r + 3)) (mod-lt k size))

  -- ---- from the words to what they show

  module _ (blocks : ℕ) (room : Roomy (64 * blocks) r (sorted ps)) (few : blocks < 2 ^ 32) where
    own : List ℕ
    own = filter_words r blocks ps

    own_length : length own ≡ blocks * (r + 3)
    unfolding own filter_words
    own_length = length-map-range_with_len (λ k. block_word r ps (k / (r + 3)) (k % (r + 3))) 0 (blocks * (r + 3))

    word_at : (b m : ℕ) → b < blocks → m < r + 3 → get_or own (word_index r b m) 0 ≡ block_word r ps b m
    unfolding own filter_words
    word_at b m l g =
        get_or-map-range_with_len (λ k. block_word r ps (k / (r + 3)) (k % (r + 3))) 0 (blocks * (r + 3)) (word_index r b m) (word_index r b m) 0
        (omega (arith, next b blocks (r + 3) l)) (omega arith)
        ∙ ap₂ (block_word r ps) (digits_div b g) (digits_mod b g)

    word_past : (k : ℕ) → blocks * (r + 3) ≤ k → get_or own k 0 ≡ 0
    word_past k l = get_or_past own k 0 (omega (arith, own_length))

    within : WithinSlots (64 * blocks) r (sorted ps)
    within = within_law (64 * blocks) r (sorted ps) (sorted_sorted ps) room

    offset_small : (b : ℕ) → offset_at r (layout r ps) (64 * b) < 2 ^ 64
    offset_small b =
        ⊎_elim (λ (l : b < blocks). omega (arith, within.offset (64 * b) (omega arith)))
        (λ (l : blocks ≤ b). omega (arith, within.past (64 * b) (omega arith))) (cases_lt b blocks)

    block_word_lt : (b m : ℕ) → block_word r ps b m < 2 ^ 64
    unfolding block_word
    block_word_lt b m =
        cond_below (eqb m 0) _ _ _ (bits_lt (λ i. occupied_at r ps (64 * b + i)) 64 (λ i _. bit_two _))
        (cond_below (eqb m 1) _ _ _ (bits_lt (λ i. runend_at r (layout r ps) (64 * b + i)) 64 (λ i _. runend_two r (layout r ps) (64 * b + i)))
        (cond_below (eqb m 2) _ _ _ (offset_small b) (bits_lt (λ i. row_bit r ps b (64 * (m - 3) + i)) 64 (λ i _. row_two b m i))))

    own_words : Words own
    own_words k =
        ⊎_elim
        (λ (l : k < blocks * (r + 3)).
        let size : 0 < r + 3 = omega arith in
        let whole = div-add-mod' k (r + 3) in
        let block : k / (r + 3) < blocks = ⊎_elim (λ (g : k / (r + 3) < blocks). g) (λ (g : blocks ≤ k / (r + 3)). absurd (omega (arith, mul-le-mul_right (r + 3) g))) (cases_lt (k / (r + 3)) blocks) in
        let e = ap (λ x. get_or own x 0) (sym whole) ∙ word_at (k / (r + 3)) (k % (r + 3)) block (mod-lt k size) in
        omega (arith, e, block_word_lt (k / (r + 3)) (k % (r + 3))))
        (λ (l : blocks * (r + 3) ≤ k). omega (arith, word_past k l))
        (cases_lt k (blocks * (r + 3)))

    -- a word of a block past the last
    past_word : (b m : ℕ) → blocks ≤ b → get_or own (word_index r b m) 0 ≡ 0
    past_word b m l = word_past (word_index r b m) (omega (arith, mul-le-mul_right (r + 3) l))

    occupied_own : (c : ℕ) → occupied_bit_in r own c ≡ occupied_at r (sorted ps) c
    unfolding occupied_bit_in
    occupied_own c =
        ⊎_elim
        (λ (l : c / 64 < blocks).
        let whole : 64 * (c / 64) + c % 64 ≡ c = omega arith in
        ap (λ x. bit_at x (c % 64)) (word_at (c / 64) 0 l (omega arith) ∙ first_word (c / 64))
        ∙ bit_at-bits (λ i. occupied_at r ps (64 * (c / 64) + i)) 64 (c % 64) (λ i _. bit_two _) (omega arith)
        ∙ ap (occupied_at r ps) whole ∙ sym (occupied_sorted r ps c))
        (λ (l : blocks ≤ c / 64). ap (λ x. bit_at x (c % 64)) (past_word (c / 64) 0 l) ∙ bit_of_none (c % 64) ∙ sym (within.occ c (omega arith)))
        (cases_lt (c / 64) blocks)

    runends_own : (s : ℕ) → runend_in r own s ≡ runend_at r (layout r ps) s
    unfolding runend_in
    runends_own s =
        ⊎_elim
        (λ (l : s / 64 < blocks).
        let whole : 64 * (s / 64) + s % 64 ≡ s = omega arith in
        ap (λ x. bit_at x (s % 64)) (word_at (s / 64) 1 l (omega arith) ∙ second_word (s / 64))
        ∙ bit_at-bits (λ i. runend_at r (layout r ps) (64 * (s / 64) + i)) 64 (s % 64) (λ i _. runend_two r (layout r ps) (64 * (s / 64) + i)) (omega arith)
        ∙ ap (runend_at r (layout r ps)) whole)
        (λ (l : blocks ≤ s / 64). ap (λ x. bit_at x (s % 64)) (past_word (s / 64) 1 l) ∙ bit_of_none (s % 64) ∙ sym (within.end s (omega arith)))
        (cases_lt (s / 64) blocks)

    offsets_own : (b : ℕ) → offset_in r own b ≡ offset_at r (layout r ps) (64 * b)
    unfolding offset_in
    offsets_own b =
        ⊎_elim (λ (l : b < blocks). word_at b 2 l (omega arith) ∙ third_word b)
        (λ (l : blocks ≤ b). past_word b 2 l ∙ sym (within.past (64 * b) (omega arith))) (cases_lt b blocks)

    -- bit t of the field of slot s
    field_bit : (s t : ℕ) → t < r → bit_at (remainder_in r own s) t ≡ bit_at (get_or own (word_index r (s / 64) (3 + (s % 64 * r + t) / 64)) 0) ((s % 64 * r + t) % 64)
    unfolding remainder_in
    field_bit s t l =
        let n : ℕ = s % 64 * r + t in
        let word : (remainder_place r s + t) / 64 ≡ word_index r (s / 64) (3 + n / 64) = omega arith in
        let inner : (remainder_place r s + t) % 64 ≡ n % 64 = omega arith in
        bit_field (long_number own) (remainder_place r s) r t l ∙ bit_row own own_words (remainder_place r s + t) ∙ ap₂ (λ x y. bit_at (get_or own x 0) y) word inner

    field_small : (s : ℕ) → remainder_in r own s < 2 ^ r
    unfolding remainder_in
    field_small s = field_lt (long_number own) (remainder_place r s) r

    remainders_own : (s : ℕ) → remainder_in r own s ≡ remainder_at r (layout r ps) s
    remainders_own s =
        bits_one (remainder_in r own s) (remainder_at r (layout r ps) s) r (field_small s) (remainder_small r (layout r ps) s) (λ t l. field_bit s t l ∙ ⊎_elim
        (λ (g : s / 64 < blocks).
        let n : ℕ = s % 64 * r + t in
        let short : 3 + n / 64 < r + 3 = omega (arith, row_room s r) in
        let whole : 64 * (3 + n / 64 - 3) + n % 64 ≡ n = omega arith in
        let slot : 64 * (s / 64) + s % 64 ≡ s = omega arith in
        ap (λ x. bit_at x (n % 64)) (word_at (s / 64) (3 + n / 64) g short ∙ row_word (s / 64) (3 + n / 64) (omega arith))
        ∙ bit_at-bits (λ i. row_bit r ps (s / 64) (64 * (3 + n / 64 - 3) + i)) 64 (n % 64) (λ i _. row_two (s / 64) (3 + n / 64) i) (omega arith)
        ∙ ap (row_bit r ps (s / 64)) whole
        ∙ ap₂ (λ x y. bit_at (remainder_at r (layout r ps) (64 * (s / 64) + x)) y) (digits_div (s % 64) l) (digits_mod (s % 64) l)
        ∙ ap (λ x. bit_at (remainder_at r (layout r ps) x) t) slot)
        (λ (g : blocks ≤ s / 64).
        let n : ℕ = s % 64 * r + t in
        ap (λ x. bit_at x (n % 64)) (past_word (s / 64) (3 + n / 64) g) ∙ bit_of_none (n % 64)
        ∙ sym (bit_of_none t) ∙ ap (λ x. bit_at x t) (sym (within.rem s (omega arith))))
        (cases_lt (s / 64) blocks))

    pub views_from_words : (ws : List ℕ) → ws ≡ filter_words r blocks ps → Shows r ws (sorted ps)
    unfolding own
    views_from_words ws e = record {
      occupied = λ c. ap (λ x. occupied_bit_in r x c) e ∙ occupied_own c;
      runends = λ s. ap (λ x. runend_in r x s) e ∙ runends_own s;
      offsets = λ b. ap (λ x. offset_in r x b) e ∙ offsets_own b;
      remainders = λ s. ap (λ x. remainder_in r x s) e ∙ remainders_own s;
    }
