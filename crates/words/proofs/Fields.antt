-- Fields of bits within a number: what a write of one leaves, how masks write it, and a number by its bits.
use Rattle.std.proofs.Common.{◌≡◌, ℕ, zero, suc, ◌+◌, ◌-◌, ◌*◌, ◌/◌, ◌%◌, ◌^◌, ◌<◌, ◌≤◌, cond, eqb, ◌≢◌, ◌⊎◌, sym, refl, ap, ◌∙◌, subst, ap₂, inl, inr, ⊎_elim, lt_of_lt_of_le, lt_of_le_of_lt, add-zero, mul-le-mul_right, mod-lt, mod-eq_of_lt, mul_assoc, add-mul, add_comm, pow-suc, one-add, arith, pow_pos, pow_mono, pow-add, shr-shr}
use Rattle.std.proofs.lemmas.Bool.{cond_both, eqb-true, eqb-false, cases_lt}
use native.Mathlib.Nat.{mod-one, div-eq_of_lt}
use lib.Pow.{high, low, field as field-mod, mod-mod-pow, mod-pow-add, ones_split, split, shr_mod, ones_lt}
use Rattle.std.proofs.lemmas.Nat.{shl_below, shl_whole, one_shl}
use Rattle.std.proofs.lemmas.Nat.Bits.{ones_shr}
use Rattle.std.specs.Int.{bit_at}
use lib.Bits.{bit_and, bit_or, and_block, or_block, and_mask, or_shifted, or_zero_r, or_lt, and_le_l}
use Rattle.words.specs.Bits.{field, bits}

pub field_lt : (n p k : ℕ) → field n p k < 2 ^ k
field_lt n p k = mod-lt (n / 2 ^ p) (pow_pos k)

pub bit_lt : (n p : ℕ) → bit_at n p < 2
bit_lt n p = field_lt n p 1

-- a number has nothing past its width
pub shr_past : (n k p : ℕ) → n < 2 ^ k → k ≤ p → n / 2 ^ p ≡ 0
shr_past n k p h l = div-eq_of_lt (lt_of_lt_of_le h (pow_mono l))

-- the low k bits of the low w bits
pub low_low : (n w k : ℕ) → k ≤ w → n % 2 ^ w % 2 ^ k ≡ n % 2 ^ k
low_low n w k l =
    let e : (w - k) + k ≡ w = omega arith in
    subst (λ y. n % 2 ^ y % 2 ^ k ≡ n % 2 ^ k) e (mod-mod-pow n (w - k) k)

-- a field lies within the low bits that hold it
pub field_low : (n q m w : ℕ) → q + m ≤ w → field (n % 2 ^ w) q m ≡ field n q m
field_low n q m w l =
    sym (field-mod (n % 2 ^ w) m q) ∙ ap (λ x. x / 2 ^ q) (low_low n w (m + q) (omega arith)) ∙ field-mod n m q

-- a field of what stands from place p on
pub field_shr : (n p q m : ℕ) → field (n / 2 ^ p) q m ≡ field n (p + q) m
field_shr n p q m = ap (λ x. x % 2 ^ m) (shr-shr n p q)

-- a field within a field
pub field_field : (n p k q m : ℕ) → q + m ≤ k → field (field n p k) q m ≡ field n (p + q) m
field_field n p k q m l = field_low (n / 2 ^ p) q m k l ∙ field_shr n p q m

pub bit_field : (n p k s : ℕ) → s < k → bit_at (field n p k) s ≡ bit_at n (p + s)
bit_field n p k s l = field_field n p k s 1 (omega arith)

-- ---- a number by its bits

pub bits_lt : (f : ℕ → ℕ) (n : ℕ) → ((i : ℕ) → i < n → f i < 2) → bits f n < 2 ^ n
unfolding bits
bits_lt f zero h = omega arith
bits_lt f (suc n) h =
    let top : f n * 2 ^ n ≤ 1 * 2 ^ n = mul-le-mul_right (2 ^ n) (omega (arith, h n (omega arith))) in
    omega (arith, bits_lt f n (λ i l. h i (omega arith)), pow-suc 2 n)

pub bit_at-bits : (f : ℕ → ℕ) (n i : ℕ) → ((j : ℕ) → j < n → f j < 2) → i < n → bit_at (bits f n) i ≡ f i
unfolding bits
bit_at-bits f zero i h l = absurd (omega arith)
bit_at-bits f (suc n) i h l =
    let less : (j : ℕ) → j < n → f j < 2 = λ j g. h j (omega arith) in
    let small = bits_lt f n less in
    ap (λ x. bit_at x i) (add_comm (bits f n) (f n * 2 ^ n)) ∙ ⊎_elim
    (λ (g : i < n). sym (field_low (f n * 2 ^ n + bits f n) i 1 n (omega arith)) ∙ ap (λ x. bit_at x i) (low (f n) n small) ∙ bit_at-bits f n i less g)
    (λ (g : n ≤ i).
    let at : i ≡ n = omega arith in
    ap (bit_at (f n * 2 ^ n + bits f n)) at ∙ ap (λ x. x % 2) (high (f n) n small) ∙ mod-eq_of_lt (h n (omega arith)) ∙ ap f (sym at))
    (cases_lt i n)

-- the number of n's own bits is n
pub bits-bit_at : (n k : ℕ) → bits (bit_at n) k ≡ n % 2 ^ k
unfolding bits
bits-bit_at n zero = sym (mod-one n)
bits-bit_at n (suc k) =
    ap (λ x. x + bit_at n k * 2 ^ k) (bits-bit_at n k) ∙ add_comm (n % 2 ^ k) (bit_at n k * 2 ^ k)
    ∙ sym (mod-pow-add n 1 k) ∙ ap (λ x. n % 2 ^ x) (one-add k)

pub bits_ext : (f g : ℕ → ℕ) (n : ℕ) → ((i : ℕ) → i < n → f i ≡ g i) → bits f n ≡ bits g n
unfolding bits
bits_ext f g zero h = refl
bits_ext f g (suc n) h = ap₂ (λ x y. x + y * 2 ^ n) (bits_ext f g n (λ i l. h i (omega arith))) (h n (omega arith))

-- numbers with the same bits are one
pub bits_one : (m n k : ℕ) → m < 2 ^ k → n < 2 ^ k → ((i : ℕ) → i < k → bit_at m i ≡ bit_at n i) → m ≡ n
bits_one m n k hm hn h =
    sym (bits-bit_at m k ∙ mod-eq_of_lt hm) ∙ bits_ext (bit_at m) (bit_at n) k h ∙ bits-bit_at n k ∙ mod-eq_of_lt hn

-- fields with the same bits are one
pub field_by_bits : (m n p q k : ℕ) → ((i : ℕ) → i < k → bit_at m (p + i) ≡ bit_at n (q + i)) → field m p k ≡ field n q k
field_by_bits m n p q k h =
    bits_one (field m p k) (field n q k) k (field_lt m p k) (field_lt n q k) (λ i l. bit_field m p k i l ∙ h i l ∙ sym (bit_field n q k i l))

-- ---- writes

-- n with v in its k bits from place p on: what stands above, then v, then what stands below
abbrev pub with_field : ℕ → ℕ → ℕ → ℕ → ℕ
with_field n p k v = (n / 2 ^ (k + p) * 2 ^ k + v) * 2 ^ p + n % 2 ^ p

-- the field that was written
pub field_put : (n p k v : ℕ) → v < 2 ^ k → field (with_field n p k v) p k ≡ v
field_put n p k v h =
    ap (λ x. x % 2 ^ k) (high (n / 2 ^ (k + p) * 2 ^ k + v) p (mod-lt n (pow_pos p))) ∙ low (n / 2 ^ (k + p)) k h

-- what stands above a field, at d places above it
above : (n p k v d : ℕ) → v < 2 ^ k → with_field n p k v / 2 ^ ((p + k) + d) ≡ n / 2 ^ ((p + k) + d)
above n p k v d h =
    sym (shr-shr (with_field n p k v) (p + k) d) ∙ ap (λ x. x / 2 ^ d)
    (sym (shr-shr (with_field n p k v) p k) ∙ ap (λ x. x / 2 ^ k) (high (n / 2 ^ (k + p) * 2 ^ k + v) p (mod-lt n (pow_pos p)))
    ∙ high (n / 2 ^ (k + p)) k h ∙ ap (λ x. n / 2 ^ x) (add_comm k p))
    ∙ shr-shr n (p + k) d

-- a field apart from the one that was written
pub field_put_other : (n p k v q m : ℕ) → v < 2 ^ k → (q + m ≤ p) ⊎ (p + k ≤ q) → field (with_field n p k v) q m ≡ field n q m
field_put_other n p k v q m h (inl l) =
    sym (field_low (with_field n p k v) q m p l)
    ∙ ap (λ x. field x q m) (low (n / 2 ^ (k + p) * 2 ^ k + v) p (mod-lt n (pow_pos p))) ∙ field_low n q m p l
field_put_other n p k v q m h (inr l) =
    let e : (p + k) + (q - (p + k)) ≡ q = omega arith in
    ap (λ x. x % 2 ^ m) (subst (λ x. with_field n p k v / 2 ^ x ≡ n / 2 ^ x) e (above n p k v (q - (p + k)) h))

apart : (k i : ℕ) → (k ≡ i → ⊥) → (k + 1 ≤ i) ⊎ (i + 1 ≤ k)
apart k i ne = ⊎_elim (λ g. inl (omega arith)) (λ g. inr (let z : k ≢ i = ne in omega arith)) (cases_lt k i)

-- every bit after a write of one
pub bit_put : (n i v k : ℕ) → v < 2 → bit_at (with_field n i 1 v) k ≡ cond (eqb k i) v (bit_at n k)
bit_put n i v k h =
    cond_both (eqb k i) v (bit_at n k) (λ x. bit_at (with_field n i 1 v) k ≡ x)
    (λ e. ap (bit_at (with_field n i 1 v)) (eqb-true k i e) ∙ field_put n i 1 v h)
    (λ e. field_put_other n i 1 v k 1 h (apart k i (eqb-false k i e)))

-- the bits that a write of several puts, and the others
pub bit_put_in : (n p k v i : ℕ) → v < 2 ^ k → i < k → bit_at (with_field n p k v) (p + i) ≡ bit_at v i
bit_put_in n p k v i h l = sym (bit_field (with_field n p k v) p k i l) ∙ ap (λ x. bit_at x i) (field_put n p k v h)

pub bit_put_out : (n p k v i : ℕ) → v < 2 ^ k → (i < p) ⊎ (p + k ≤ i) → bit_at (with_field n p k v) i ≡ bit_at n i
bit_put_out n p k v i h o = field_put_other n p k v i 1 h (⊎_elim (λ g. inl (omega arith)) (λ g. inr g) o)

-- a write of what is there
put_same : (n p k : ℕ) → with_field n p k (field n p k) ≡ n
put_same n p k =
    ap (λ x. (x * 2 ^ k + field n p k) * 2 ^ p + n % 2 ^ p) (ap (λ x. n / 2 ^ x) (add_comm k p) ∙ sym (shr-shr n p k))
    ∙ ap (λ x. x * 2 ^ p + n % 2 ^ p) (split (n / 2 ^ p) k) ∙ split n p

-- a write adds what is new and takes off what was there
pub put_sum : (n p k v : ℕ) → with_field n p k v + field n p k * 2 ^ p ≡ n + v * 2 ^ p
put_sum n p k v =
    omega (arith, put_same n p k, add-mul (n / 2 ^ (k + p) * 2 ^ k) v (2 ^ p), add-mul (n / 2 ^ (k + p) * 2 ^ k) (field n p k) (2 ^ p))

-- ---- masks: a word of j + (k + p) bits, cleared at the field and then written

ones_without : (j k p : ℕ) → (2 ^ (j + (k + p)) - 1) - (2 ^ k - 1) * 2 ^ p ≡ (2 ^ j - 1) * 2 ^ (k + p) + (2 ^ p - 1)
ones_without j k p = omega (arith, ones_split j (k + p), ones_split k p)

cleared : (n j k p : ℕ) → n < 2 ^ (j + (k + p)) → bit_and n ((2 ^ (j + (k + p)) - 1) - (2 ^ k - 1) * 2 ^ p) ≡ n / 2 ^ (k + p) * 2 ^ k * 2 ^ p + n % 2 ^ p
cleared n j k p h =
    ap (bit_and n) (ones_without j k p)
    ∙ ap (λ x. bit_and x ((2 ^ j - 1) * 2 ^ (k + p) + (2 ^ p - 1))) (sym (split n (k + p)))
    ∙ and_block (k + p) (n / 2 ^ (k + p)) (2 ^ j - 1) (n % 2 ^ (k + p)) (2 ^ p - 1) (mod-lt n (pow_pos (k + p))) small
    ∙ ap₂ (λ x y. x * 2 ^ (k + p) + y)
    (and_mask (n / 2 ^ (k + p)) j ∙ shr_mod j (k + p) h)
    (and_mask (n % 2 ^ (k + p)) p ∙ mod-mod-pow n k p)
    ∙ ap (λ x. x + n % 2 ^ p) (ap (λ x. n / 2 ^ (k + p) * x) (pow-add 2 k p) ∙ sym (mul_assoc (n / 2 ^ (k + p)) (2 ^ k) (2 ^ p)))
  where
    small : 2 ^ p - 1 < 2 ^ (k + p)
    small = omega (arith, ones_split k p, pow_pos k, pow_pos p, pow_pos (k + p))

put_masked : (n j k p v : ℕ) → n < 2 ^ (j + (k + p)) → v < 2 ^ k
    → bit_or (bit_and n ((2 ^ (j + (k + p)) - 1) - (2 ^ k - 1) * 2 ^ p)) (v * 2 ^ p) ≡ with_field n p k v
put_masked n j k p v h hv =
    ap₂ bit_or (cleared n j k p h) (sym (add-zero (v * 2 ^ p)))
    ∙ or_block p (n / 2 ^ (k + p) * 2 ^ k) v (n % 2 ^ p) zero (mod-lt n (pow_pos p)) (pow_pos p)
    ∙ ap₂ (λ x y. x * 2 ^ p + y) (or_shifted (n / 2 ^ (k + p)) k v hv) (or_zero_r (n % 2 ^ p))

-- the same in a word of w bits
put_word : (w n p k v : ℕ) → n < 2 ^ w → k + p ≤ w → v < 2 ^ k
    → bit_or (bit_and n ((2 ^ w - 1) - (2 ^ k - 1) * 2 ^ p)) (v * 2 ^ p) ≡ with_field n p k v
put_word w n p k v h l hv =
    let e : (w - (k + p)) + (k + p) ≡ w = omega arith in
    subst (λ x. n < 2 ^ x → bit_or (bit_and n ((2 ^ x - 1) - (2 ^ k - 1) * 2 ^ p)) (v * 2 ^ p) ≡ with_field n p k v) e
    (λ g. put_masked n (w - (k + p)) k p v g hv) h

-- the same where the shifts of code cut off what passes the word
put_shifted : (w n p k v : ℕ) → n < 2 ^ w → k + p ≤ w → v < 2 ^ k
    → bit_or (bit_and n ((2 ^ w - 1) - ((2 ^ k - 1) * 2 ^ p) % 2 ^ w)) ((v * 2 ^ p) % 2 ^ w) ≡ with_field n p k v
put_shifted w n p k v h l hv =
    ap₂ (λ x y. bit_or (bit_and n ((2 ^ w - 1) - x)) y) (shl_whole (2 ^ k - 1) k p w (ones_lt k) l) (shl_whole v k p w hv l)
    ∙ put_word w n p k v h l hv

-- `(n & !(((1 << k) - 1) << p)) | (v << p)`
pub put_code : (w n p k v : ℕ) → n < 2 ^ w → k < w → k + p ≤ w → v < 2 ^ k
    → bit_or (bit_and n ((2 ^ w - 1) - ((((1 * 2 ^ k) % 2 ^ w) - 1) * 2 ^ p) % 2 ^ w)) ((v * 2 ^ p) % 2 ^ w) ≡ with_field n p k v
put_code w n p k v h s l hv =
    ap (λ x. bit_or (bit_and n ((2 ^ w - 1) - ((x - 1) * 2 ^ p) % 2 ^ w)) ((v * 2 ^ p) % 2 ^ w)) (one_shl k w s) ∙ put_shifted w n p k v h l hv

-- `(n & !(mask << p)) | ((v & mask) << p)` with the mask `MAX >> (w - k)`, where the field may fill the word
pub put_low : (w n p k v : ℕ) → n < 2 ^ w → k + p ≤ w
    → bit_or (bit_and n ((2 ^ w - 1) - ((2 ^ w - 1) / 2 ^ (w - k) * 2 ^ p) % 2 ^ w)) ((bit_and v ((2 ^ w - 1) / 2 ^ (w - k)) * 2 ^ p) % 2 ^ w) ≡ with_field n p k (v % 2 ^ k)
put_low w n p k v h l =
    let e : w - (w - k) ≡ k = omega arith in
    ap (λ x. bit_or (bit_and n ((2 ^ w - 1) - (x * 2 ^ p) % 2 ^ w)) ((bit_and v x * 2 ^ p) % 2 ^ w))
    (ones_shr w (w - k) (omega arith) ∙ ap (λ x. 2 ^ x - 1) e)
    ∙ ap (λ x. bit_or (bit_and n ((2 ^ w - 1) - ((2 ^ k - 1) * 2 ^ p) % 2 ^ w)) ((x * 2 ^ p) % 2 ^ w)) (and_mask v k)
    ∙ put_shifted w n p k (v % 2 ^ k) h l (mod-lt v (pow_pos k))

pub put_lt : (w n p k v : ℕ) → n < 2 ^ w → k + p ≤ w → v < 2 ^ k → with_field n p k v < 2 ^ w
put_lt w n p k v h l hv =
    let small : v * 2 ^ p < 2 ^ w = lt_of_lt_of_le (shl_below v k p hv) (pow_mono l) in
    rw (← put_word w n p k v h l hv) (or_lt w (bit_and n ((2 ^ w - 1) - (2 ^ k - 1) * 2 ^ p)) (v * 2 ^ p)
    (lt_of_le_of_lt (and_le_l n ((2 ^ w - 1) - (2 ^ k - 1) * 2 ^ p)) h) small)
