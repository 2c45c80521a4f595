-- How words and blocks are written.
use Rattle.std.proofs.Common.{◌≡◌, ℕ, zero, suc, ◌+◌, ◌-◌, ◌*◌, ◌/◌, ◌%◌, ◌^◌, ◌==◌, if◌then◌else◌, cond, ne_eqb, ⊎_elim, eq-zero-or-pos, pow-suc, ◌<◌, ◌≤◌, ◌++◌, List, [], ◌∷◌, length, take, drop, replicate, flat_map, false, refl, sym, ap, ap₂, ◌∙◌, add-one, zero-add, append_assoc, le-div_iff_mul-le, arith}
use Rattle.std.proofs.lemmas.List.{append-nil, length-drop, length-append, drop-drop, drop_at, take_at, flat_map_more}
use Rattle.std.proofs.lemmas.Grind.{flat_map-append}
use Rattle.std.proofs.Math.Nat.{div-eq_of_lt-le}
use Rattle.std.specs.Fmt.{padded_integral, format_spec, digits, digits_onto, digit_glyph, char_count}
use Rattle.std.specs.List.{range_with_len}
use Rattle.console.specs.Texts.{word_text, block_text, block_line, blocks_text}

-- a hole of 16 digits writes a word
pub word_padded : (w : ℕ) → padded_integral (format_spec 32 0 4 16 (2 ^ 64 - 1)) false [] (digits 16 false w) ≡ word_text w
unfolding padded_integral char_count
word_padded w =
    let few : 16 - length (digits 16 false w) - 0 - 0 ≡ 16 - length (digits 16 false w) = omega arith in
    ap₂ (λ k ds. replicate k 48 ++ ds) few (append-nil (digits 16 false w))

-- k more digits to the base 16, the last ones of n, before those that stand
unfoldable pub low_digits : ℕ → ℕ → List ℕ → List ℕ
low_digits zero n acc = acc
low_digits (suc k) n acc = low_digits k (n / 16) (digit_glyph false (n % 16) ∷ acc)

pub low_none : (n : ℕ) (acc : List ℕ) → low_digits 0 n acc ≡ acc
unfolding low_digits
low_none n acc = refl

pub low_more : (k n : ℕ) (acc : List ℕ) → low_digits (suc k) n acc ≡ low_digits k (n / 16) (digit_glyph false (n % 16) ∷ acc)
unfolding low_digits
low_more k n acc = refl

zeros_more : (k : ℕ) (acc : List ℕ) → replicate k 48 ++ (48 ∷ acc) ≡ replicate (suc k) 48 ++ acc
zeros_more zero acc = refl
zeros_more (suc k) acc = ap (λ xs. 48 ∷ xs) (zeros_more k acc)

-- 0 is written in zeros
low_zeros : (k : ℕ) (acc : List ℕ) → low_digits k 0 acc ≡ replicate k 48 ++ acc
unfolding low_digits
low_zeros zero acc = refl
low_zeros (suc k) acc = low_zeros k (48 ∷ acc) ∙ zeros_more k acc

-- which of two ways digits go on
goes_last : (q : ℕ) (last more : List ℕ) → q ≡ 0 → (if q == 0 then last else more) ≡ last
goes_last q last more none = rw none refl

goes_on : (q : ℕ) (last more : List ℕ) → 0 < q → (if q == 0 then last else more) ≡ more
goes_on q last more some = ap (λ b. cond b last more) (ne_eqb q 0 (λ none. omega arith))

onto_last : (m n : ℕ) (acc : List ℕ) → 0 < m → n / 16 ≡ 0 → digits_onto m 16 false n acc ≡ digit_glyph false (n % 16) ∷ acc
onto_last zero n acc fuel none = absurd (omega arith)
onto_last (suc m) n acc fuel none = goes_last (n / 16) _ _ none

onto_more : (m n : ℕ) (acc : List ℕ) → 0 < n / 16 → digits_onto (suc m) 16 false n acc ≡ digits_onto m 16 false (n / 16) (digit_glyph false (n % 16) ∷ acc)
onto_more m n acc some = goes_on (n / 16) _ _ some

left : (k n : ℕ) → 16 ≤ n → n < 16 ^ suc k → 0 < k
left zero n more small = absurd (omega arith)
left (suc k) n more small = omega arith

-- as many digits as there are to write are the number's own, behind zeros
low_pads : (k m n : ℕ) (acc : List ℕ) → 0 < k → k ≤ m → n < 16 ^ k
    → (j : ℕ) × (low_digits k n acc ≡ replicate j 48 ++ digits_onto m 16 false n acc) × (j + length (digits_onto m 16 false n acc) ≡ k + length acc)
unfolding low_digits
low_pads zero m n acc some fuel small = absurd (omega arith)
low_pads (suc k) zero n acc some fuel small = absurd (omega arith)
low_pads (suc k) (suc m) n acc some fuel small = ⊎_elim
    (λ none.
    let own = onto_last (suc m) n acc (omega arith) none in (
      k,
      ap (λ h. low_digits k h (digit_glyph false (n % 16) ∷ acc)) none ∙ low_zeros k (digit_glyph false (n % 16) ∷ acc) ∙ ap (λ xs. replicate k 48 ++ xs) (sym own),
      omega (arith, ap length own),
    ))
    (λ more.
    let own = onto_more m n acc more in
    let high : n / 16 < 16 ^ k = omega (arith, pow-suc 16 k) in
    let (j, same, long) = low_pads k m (n / 16) (digit_glyph false (n % 16) ∷ acc) (left k n (omega arith) small) (omega arith) high in (
      j,
      same ∙ ap (λ xs. replicate j 48 ++ xs) (sym own),
      omega (arith, long, ap length own),
    ))
    (eq-zero-or-pos (n / 16))

pub low_word : (w : ℕ) → w < 2 ^ 64 → low_digits 16 w [] ≡ word_text w
unfolding digits
low_word w small =
    let (j, same, long) = low_pads 16 64 w [] (omega arith) (omega arith) (omega arith) in
    let few : j ≡ 16 - length (digits 16 false w) = omega (arith, long) in
    same ∙ ap (λ k. replicate k 48 ++ digits 16 false w) few

range_more : (a n : ℕ) → range_with_len a (suc n) ≡ range_with_len a n ++ ((a + n) ∷ [])
range_more a zero = let same : a ≡ a + 0 = omega arith in ap (λ k. k ∷ []) same
range_more a (suc n) =
    let same : a + 1 + n ≡ a + suc n = omega arith in
    ap (λ ks. a ∷ ks) (range_more (a + 1) n) ∙ ap (λ k. a ∷ (range_with_len (a + 1) n ++ (k ∷ []))) same

-- the lines of the first k blocks, where each block has that many words
abbrev pub first_lines : ℕ → List ℕ → ℕ → List ℕ
first_lines size ws k = flat_map (block_line size ws) (range_with_len 0 k)

-- rest is what follows the first k blocks of the words
pub record After (size : ℕ) (ws rest : List ℕ) (k : ℕ) : Type 0 where
  pub from : rest ≡ drop (k * size) ws
  pub within : k * size ≤ length ws

pub after_next : (size : ℕ) (ws rest block more : List ℕ) (k : ℕ) → After size ws rest k → rest ≡ block ++ more → length block ≡ size → After size ws more (k + 1)
after_next size ws rest block more k a e len =
    let next : k * size + size ≡ (k + 1) * size = search arith in
    let left : length rest ≡ length ws - k * size = ap length a.from ∙ length-drop (k * size) ws in
    let long : length rest ≡ size + length more = ap length e ∙ length-append block more ∙ ap (λ n. n + length more) len in
    record {
      from = sym (drop_at block more size len) ∙ ap (drop size) (sym e ∙ a.from) ∙ drop-drop size (k * size) ws ∙ ap (λ n. drop n ws) next;
      within = omega (arith, a.within, left, long, next);
    }

pub line_next : (size : ℕ) (ws rest block more : List ℕ) (k : ℕ) → After size ws rest k → rest ≡ block ++ more → length block ≡ size → first_lines size ws k ++ (block_text k block ++ (10 ∷ [])) ≡ first_lines size ws (k + 1)
line_next size ws rest block more k a e len =
    let own : block ≡ take size (drop (k * size) ws) = sym (take_at block more size len) ∙ ap (take size) (sym e ∙ a.from) in
    let end : range_with_len 0 k ++ (k ∷ []) ≡ range_with_len 0 (k + 1) = rw add-one (ap (λ n. range_with_len 0 k ++ (n ∷ [])) (sym (zero-add k)) ∙ sym (range_more 0 k)) in
    ap (λ b. first_lines size ws k ++ (block_text k b ++ (10 ∷ []))) own ∙ flat_map_more (block_line size ws) [] (range_with_len 0 k) k ∙ ap (flat_map (block_line size ws)) end

pub after_all : (size : ℕ) (ws rest : List ℕ) (k : ℕ) → After size ws rest k → length rest < size → length ws / size ≡ k
after_all size ws rest k a short =
    let next : k * size + size ≡ (k + 1) * size = search arith in
    let left : length rest ≡ length ws - k * size = ap length a.from ∙ length-drop (k * size) ws in
    div-eq_of_lt-le size a.within (omega (arith, a.within, left, short, next))

range_split : (a m n b s : ℕ) → b ≡ a + m → s ≡ m + n → range_with_len a s ≡ range_with_len a m ++ range_with_len b n
range_split a zero n b s from long =
    let same : s ≡ n = omega arith in
    let here : a ≡ b = omega arith in
    ap₂ range_with_len here same
range_split a (suc m) n b zero from long = absurd (omega arith)
range_split a (suc m) n b (suc s) from long = ap (λ ks. a ∷ ks) (range_split (a + 1) m n b s (omega arith) (omega arith))

-- the lines of all whole blocks, cut at one of them
pub line_within : (size : ℕ) (ws rest block more : List ℕ) (k number : ℕ) → 0 < size → After size ws rest k → rest ≡ block ++ more → length block ≡ size → number ≡ k
    → blocks_text size ws ≡ first_lines size ws k ++ ((block_text number block ++ (10 ∷ [])) ++ flat_map (block_line size ws) (range_with_len (k + 1) (length ws / size - (k + 1))))
line_within size ws rest block more k number some a e len same =
    let f = block_line size ws in
    let next = after_next size ws rest block more k a e len in
    let few : k + 1 ≤ length ws / size = (le-div_iff_mul-le some).1 next.within in
    let tail = range_with_len (k + 1) (length ws / size - (k + 1)) in
    ap (flat_map f) (range_split 0 (k + 1) (length ws / size - (k + 1)) (k + 1) (length ws / size) (omega arith) (omega arith))
    ∙ flat_map-append f (range_with_len 0 (k + 1)) tail ∙ ap (λ ls. ls ++ flat_map f tail) (sym (line_next size ws rest block more k a e len))
    ∙ append_assoc (first_lines size ws k) (block_text k block ++ (10 ∷ [])) (flat_map f tail) ∙ ap (λ n. first_lines size ws k ++ ((block_text n block ++ (10 ∷ [])) ++ flat_map f tail)) (sym same)
