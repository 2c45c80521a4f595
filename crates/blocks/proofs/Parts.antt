-- Words of blocks and fields of remainders lie apart.
use Rattle.std.proofs.Common.{◌≡◌, ℕ, suc, ◌+◌, ◌*◌, ◌/◌, ◌%◌, ◌<◌, ◌≤◌, ◌≢◌, ◌⊎◌, sym, ap, inl, inr, ⊎_elim, le_trans, le_of_eq, mul-le-mul_right, suc-mul, arith}
use Rattle.std.proofs.lemmas.Bool.{cases_order}
use Rattle.blocks.specs.Views.{word_index, runend_place, remainder_place}

-- of two pieces of s places each, the earlier ends before the later begins
pub next : (a b s : ℕ) → a < b → a * s + s ≤ b * s
next a b s l = le_trans (le_of_eq (sym (suc-mul a s))) (mul-le-mul_right s l)

-- a slot's field lies in the row of its block
pub row_room : (k r : ℕ) → k % 64 * r + r ≤ 64 * r
row_room k r = next (k % 64) 64 r (omega arith)

-- words of blocks are one only where block and word are
pub words_apart : (r b d m n : ℕ) → m < r + 3 → n < r + 3 → word_index r d n ≡ word_index r b m → (d ≡ b) × (n ≡ m)
words_apart r b d m n lm ln e =
    ⊎_elim (λ (same : d ≡ b). (same, omega (arith, ap (λ x. x * (r + 3)) same)))
    (λ o. ⊎_elim (λ (l : d < b). absurd (omega (arith, next d b (r + 3) l))) (λ (l : b < d). absurd (omega (arith, next b d (r + 3) l))) o)
    (cases_order d b)

-- the field of slot k and one of the first three words of block b
pub head_apart : (r b m k : ℕ) → m < 3 → (remainder_place r k + r ≤ 64 * word_index r b m) ⊎ (64 * word_index r b m + 64 ≤ remainder_place r k)
head_apart r b m k l =
    let room = row_room k r in
    ⊎_elim (λ (same : k / 64 ≡ b). inr (omega (arith, ap (λ x. x * (r + 3)) same)))
    (λ o. ⊎_elim (λ (g : k / 64 < b). inl (omega (arith, next (k / 64) b (r + 3) g))) (λ (g : b < k / 64). inr (omega (arith, next b (k / 64) (r + 3) g))) o)
    (cases_order (k / 64) b)

-- the row of remainders of block b and one of the first three words of block d
pub row_apart : (r b d n : ℕ) → n < 3 → (64 * word_index r d n + 64 ≤ 64 * word_index r b 3) ⊎ (64 * word_index r b 3 + 64 * r ≤ 64 * word_index r d n)
row_apart r b d n l =
    ⊎_elim (λ (same : d ≡ b). inl (omega (arith, ap (λ x. x * (r + 3)) same)))
    (λ o. ⊎_elim (λ (g : d < b). inl (omega (arith, next d b (r + 3) g))) (λ (g : b < d). inr (omega (arith, next b d (r + 3) g))) o)
    (cases_order d b)

-- one of the first three words of a block, and another
pub heads_apart : (r b m d n : ℕ) → m < 3 → n < 3 → n ≢ m → (64 * word_index r d n + 64 ≤ 64 * word_index r b m) ⊎ (64 * word_index r b m + 64 ≤ 64 * word_index r d n)
heads_apart r b m d n lm ln ne =
    ⊎_elim (λ (same : word_index r d n ≡ word_index r b m). absurd (ne (words_apart r b d m n (omega arith) (omega arith) same).1))
    (λ o. ⊎_elim (λ g. inl (omega arith)) (λ g. inr (omega arith)) o)
    (cases_order (word_index r d n) (word_index r b m))

-- the bits and the fields of slots rise with the slots
pub runend_next : (r s t : ℕ) → s < t → runend_place r s + 1 ≤ runend_place r t
runend_next r s t l =
    ⊎_elim (λ (same : s / 64 ≡ t / 64). omega (arith, ap (λ x. x * (r + 3)) same))
    (λ o. ⊎_elim (λ (g : s / 64 < t / 64). omega (arith, next (s / 64) (t / 64) (r + 3) g)) (λ (g : t / 64 < s / 64). absurd (omega arith)) o)
    (cases_order (s / 64) (t / 64))

pub place_next : (r s t : ℕ) → s < t → remainder_place r s + r ≤ remainder_place r t
place_next r s t l =
    ⊎_elim
    (λ (same : s / 64 ≡ t / 64).
    let inner : s % 64 < t % 64 = omega arith in
    omega (arith, ap (λ x. x * (r + 3)) same, next (s % 64) (t % 64) r inner))
    (λ o. ⊎_elim (λ (g : s / 64 < t / 64). omega (arith, next (s / 64) (t / 64) (r + 3) g, row_room s r)) (λ (g : t / 64 < s / 64). absurd (omega arith)) o)
    (cases_order (s / 64) (t / 64))

-- within a block each follows the one before
pub runend_suc : (r k : ℕ) → k / 64 ≡ suc k / 64 → runend_place r (suc k) ≡ runend_place r k + 1
runend_suc r k same = omega (arith, ap (λ x. x * (r + 3)) same)

pub place_suc : (r k : ℕ) → k / 64 ≡ suc k / 64 → remainder_place r (suc k) ≡ remainder_place r k + r
place_suc r k same =
    let inner : suc k % 64 ≡ suc (k % 64) = omega arith in
    omega (arith, ap (λ x. x * (r + 3)) same, ap (λ x. x * r) inner, suc-mul (k % 64) r)

-- the fields of two slots
pub slots_apart : (r s k : ℕ) → k ≢ s → (remainder_place r k + r ≤ remainder_place r s) ⊎ (remainder_place r s + r ≤ remainder_place r k)
slots_apart r s k ne =
    ⊎_elim (λ (same : k ≡ s). absurd (ne same))
    (λ o. ⊎_elim (λ g. inl (place_next r k s g)) (λ g. inr (place_next r s k g)) o)
    (cases_order k s)

-- the words of a block below the last, and the field of a slot below the last, lie within the words
pub head_inside : (r b blocks m : ℕ) → b < blocks → m < 3 → word_index r b m < blocks * (r + 3)
head_inside r b blocks m l g = omega (arith, next b blocks (r + 3) l)

pub slot_inside : (r s blocks : ℕ) → s < 64 * blocks → remainder_place r s + r ≤ 64 * (blocks * (r + 3))
slot_inside r s blocks l =
    let b : s / 64 < blocks = omega arith in
    omega (arith, next (s / 64) blocks (r + 3) b, row_room s r)
