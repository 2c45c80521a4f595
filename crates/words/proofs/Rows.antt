-- A row of words: its words and bits, its window of two words, and writes.
use Rattle.std.proofs.Common.{◌≡◌, ℕ, zero, suc, ◌+◌, ◌*◌, ◌/◌, ◌%◌, ◌^◌, ◌<◌, ◌≤◌, ◌≢◌, ◌⊎◌, List, [], ◌∷◌, length, get_or, drop, set, sym, refl, ap, ◌∙◌, subst, ap₂, ⊎_elim, mul_assoc, add-mul, add_comm, mul-suc, div-one, add-one, arith, pow-add, shr-shr}
use native.Mathlib.Nat.{zero-div, div-eq_of_lt}
use lib.Pow.{high, low, split}
use Rattle.std.proofs.lemmas.List.{get_or-set_other, set_past, get_or_past, length-set}
use Rattle.std.proofs.lemmas.Bool.{cases_lt}
use Rattle.std.specs.Int.{bit_at}
use Rattle.words.specs.Bits.{field}
use Rattle.words.specs.Row.{long_number}
use Rattle.words.proofs.Fields.{field_low, field_shr, bit_field, with_field, put_sum, put_lt, field_put_other}

-- each word has 64 bits
abbrev pub Words : List ℕ → Type 0
Words ws = (k : ℕ) → get_or ws k 0 < 2 ^ 64

-- the words from j on
row_shr : (ws : List ℕ) (j : ℕ) → Words ws → long_number ws / 2 ^ (64 * j) ≡ long_number (drop j ws)
unfolding long_number
row_shr ws zero h = div-one (long_number ws)
row_shr [] (suc j) h = zero-div (2 ^ (64 * suc j))
row_shr (w ∷ ws) (suc j) h =
    ap (λ x. long_number (w ∷ ws) / 2 ^ x) (mul-suc 64 j ∙ add_comm (64 * j) 64) ∙ sym (shr-shr (long_number (w ∷ ws)) 64 (64 * j))
    ∙ ap (λ x. x / 2 ^ (64 * j)) (high (long_number ws) 64 (h zero)) ∙ row_shr ws j (λ k. h (suc k))

row_drop : (ws : List ℕ) (j : ℕ) → long_number (drop j ws) ≡ long_number (drop (suc j) ws) * 2 ^ 64 + get_or ws j 0
unfolding long_number
row_drop [] zero = refl
row_drop (w ∷ ws) zero = refl
row_drop [] (suc j) = refl
row_drop (w ∷ ws) (suc j) = row_drop ws j

pub word_is_field : (ws : List ℕ) → Words ws → (j : ℕ) → get_or ws j 0 ≡ field (long_number ws) (64 * j) 64
word_is_field ws h j = sym (ap (λ x. x % 2 ^ 64) (row_shr ws j h ∙ row_drop ws j) ∙ low (long_number (drop (suc j) ws)) 64 (h j))

pub bit_row : (ws : List ℕ) → Words ws → (n : ℕ) → bit_at (long_number ws) n ≡ bit_at (get_or ws (n / 64) 0) (n % 64)
bit_row ws h n =
    let e : 64 * (n / 64) + n % 64 ≡ n = omega arith in
    sym (ap (λ x. bit_at x (n % 64)) (word_is_field ws h (n / 64)) ∙ bit_field (long_number ws) (64 * (n / 64)) 64 (n % 64) (omega arith)
    ∙ ap (bit_at (long_number ws)) e)

-- ---- the window: the word at j and the next one as one number

abbrev pub pair : List ℕ → ℕ → ℕ
pair ws j = get_or ws (j + 1) 0 * 2 ^ 64 + get_or ws j 0

row_pair : (ws : List ℕ) (j : ℕ) → Words ws → field (long_number ws) (64 * j) 128 ≡ pair ws j
row_pair ws j h =
    ap (λ x. x % 2 ^ 128) (row_shr ws j h ∙ row_drop ws j ∙ ap (λ x. x * 2 ^ 64 + get_or ws j 0) (row_drop ws (suc j)))
    ∙ ap (λ x. x % 2 ^ 128) shape ∙ low (long_number (drop (suc (suc j)) ws)) 128 (omega (arith, h j, h (j + 1)))
  where
    shape : (long_number (drop (suc (suc j)) ws) * 2 ^ 64 + get_or ws (suc j) 0) * 2 ^ 64 + get_or ws j 0 ≡ long_number (drop (suc (suc j)) ws) * 2 ^ 128 + pair ws j
    shape = rw add-one (omega arith)

-- a field of at most 64 bits is read from the pair of words where it begins
pub field_pair : (ws : List ℕ) (p r : ℕ) → Words ws → r ≤ 64 → field (long_number ws) p r ≡ field (pair ws (p / 64)) (p % 64) r
field_pair ws p r h l =
    let j = p / 64 in
    let o = p % 64 in
    let e : 64 * j + o ≡ p = omega arith in
    sym (ap (λ x. field x o r) (sym (row_pair ws j h)) ∙ field_low (long_number ws / 2 ^ (64 * j)) o r 128 (omega arith)
    ∙ field_shr (long_number ws) (64 * j) o r ∙ ap (λ x. field (long_number ws) x r) e)

-- ---- writes

row_set : (ws : List ℕ) (j x : ℕ) → j < length ws → long_number (set ws j x) + get_or ws j 0 * 2 ^ (64 * j) ≡ long_number ws + x * 2 ^ (64 * j)
unfolding long_number
row_set [] j x l = absurd (omega arith)
row_set (w ∷ ws) zero x l = omega arith
row_set (w ∷ ws) (suc j) x l =
    let ih = row_set ws j x (omega arith) in
    let step : (y : ℕ) → y * 2 ^ (64 * suc j) ≡ y * 2 ^ (64 * j) * 2 ^ 64 =
    λ y. ap (λ x. y * 2 ^ x) (mul-suc 64 j) ∙ ap (λ x. y * x) (pow-add 2 (64 * j) 64) ∙ sym (mul_assoc y (2 ^ (64 * j)) (2 ^ 64)) in
    omega (arith, ih, step x, step (get_or ws j 0))

-- a write of a word is a write of its field
pub row_set_word : (ws : List ℕ) (j v : ℕ) → Words ws → j < length ws → long_number (set ws j v) ≡ with_field (long_number ws) (64 * j) 64 v
row_set_word ws j v h l =
    omega (arith, row_set ws j v l, put_sum (long_number ws) (64 * j) 64 v, ap (λ x. x * 2 ^ (64 * j)) (word_is_field ws h j))

pub set_word_other : (ws : List ℕ) (j v p k : ℕ) → Words ws → j < length ws → v < 2 ^ 64 → (p + k ≤ 64 * j) ⊎ (64 * j + 64 ≤ p)
    → field (long_number (set ws j v)) p k ≡ field (long_number ws) p k
set_word_other ws j v p k h l hv o =
    ap (λ n. field n p k) (row_set_word ws j v h l) ∙ field_put_other (long_number ws) (64 * j) 64 v p k hv o

-- `row-set` where j may be one past the end and x is then 0, as a write to the second word of a pair may be
row_set_end : (ws : List ℕ) (j x : ℕ) → (length ws ≤ j → x ≡ 0) → long_number (set ws j x) + get_or ws j 0 * 2 ^ (64 * j) ≡ long_number ws + x * 2 ^ (64 * j)
row_set_end ws j x z = ⊎_elim (λ g. row_set ws j x g)
    (λ g. ap₂ (λ a b. long_number a + b * 2 ^ (64 * j)) (set_past ws j x g) (get_or_past ws j 0 g ∙ sym (z g))) (cases_lt j (length ws))

abbrev pub with_pair : List ℕ → ℕ → ℕ → List ℕ
with_pair ws j v = set (set ws j (v % 2 ^ 64)) (j + 1) (v / 2 ^ 64)

row_set_pair : (ws : List ℕ) (j v : ℕ) → j < length ws → (length ws ≤ j + 1 → v < 2 ^ 64)
    → long_number (with_pair ws j v) + pair ws j * 2 ^ (64 * j) ≡ long_number ws + v * 2 ^ (64 * j)
row_set_pair ws j v l z =
    let ws' : List ℕ = set ws j (v % 2 ^ 64) in
    let M : ℕ = 2 ^ (64 * j) in
    let ne : j + 1 ≢ j = omega arith in
    let a = row_set ws j (v % 2 ^ 64) l in
    let b = row_set_end ws' (j + 1) (v / 2 ^ 64) (λ g. div-eq_of_lt (z (subst (λ x. x ≤ j + 1) (length-set ws j (v % 2 ^ 64)) g))) in
    let hi : get_or ws' (j + 1) 0 ≡ get_or ws (j + 1) 0 = get_or-set_other ws j (j + 1) (v % 2 ^ 64) 0 ne in
    let step : (y : ℕ) → y * 2 ^ (64 * (j + 1)) ≡ y * 2 ^ 64 * M =
    λ y. ap (λ x. y * 2 ^ x) (ap (λ x. 64 * x) (add-one j) ∙ mul-suc 64 j ∙ add_comm (64 * j) 64) ∙ ap (λ x. y * x) (pow-add 2 64 (64 * j)) ∙ sym (mul_assoc y (2 ^ 64) M) in
    omega (
      arith,
      a,
      b,
      ap (λ x. x * 2 ^ (64 * (j + 1))) hi,
      step (get_or ws (j + 1) 0),
      step (v / 2 ^ 64),
      add-mul (get_or ws (j + 1) 0 * 2 ^ 64) (get_or ws j 0) M,
      sym (add-mul (v / 2 ^ 64 * 2 ^ 64) (v % 2 ^ 64) M) ∙ ap (λ x. x * M) (split v 64),
    )

-- a field of the row is written by writing it in the pair of words where it begins
pub row_put : (ws : List ℕ) (p r v : ℕ) → Words ws → r ≤ 64 → v < 2 ^ r → p / 64 < length ws → p + r ≤ 64 * length ws
    → long_number (with_pair ws (p / 64) (with_field (pair ws (p / 64)) (p % 64) r v)) ≡ with_field (long_number ws) p r v
row_put ws p r v h l hv lj fits =
    let j = p / 64 in
    let o = p % 64 in
    let V : ℕ = with_field (pair ws j) o r v in
    let M : ℕ = 2 ^ (64 * j) in
    let f : ℕ = field (pair ws j) o r in
    let last : length ws ≤ j + 1 → V < 2 ^ 64 =
    λ g. put_lt 64 (pair ws j) o r v (omega (arith, h j, get_or_past ws (j + 1) 0 g)) (omega arith) hv in
    let place : (y : ℕ) → y * 2 ^ p ≡ y * 2 ^ o * M =
    λ y. let e : o + 64 * j ≡ p = omega arith in
    ap (λ x. y * 2 ^ x) (sym e) ∙ ap (λ x. y * x) (pow-add 2 o (64 * j)) ∙ sym (mul_assoc y (2 ^ o) M) in
    let here : V * M + f * 2 ^ o * M ≡ pair ws j * M + v * 2 ^ o * M =
    sym (add-mul V (f * 2 ^ o) M) ∙ ap (λ x. x * M) (put_sum (pair ws j) o r v) ∙ add-mul (pair ws j) (v * 2 ^ o) M in
    let all : with_field (long_number ws) p r v + f * 2 ^ p ≡ long_number ws + v * 2 ^ p =
    ap (λ x. with_field (long_number ws) p r v + x * 2 ^ p) (sym (field_pair ws p r h l)) ∙ put_sum (long_number ws) p r v in
    omega (arith, row_set_pair ws j V lj last, here, all, place f, place v)
