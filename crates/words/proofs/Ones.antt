-- Counts of ones below a place: by the library's `ones`, and past the lowest one of a word.
use Rattle.std.proofs.Common.{◌≡◌, ℕ, zero, suc, ◌+◌, ◌-◌, ◌*◌, ◌/◌, ◌%◌, ◌^◌, ◌<◌, ◌≤◌, sym, refl, ap, ◌∙◌, ap₂, ⊎_elim, add-zero, mod-lt, mod-eq_of_lt, lt_of_lt_of_le, mul_assoc, add-mul, add_comm, one-mul, pow-suc, div-add-mod', zero-add, mul-one, add-one, one-add, arith, pow_pos, pow_mono, pow-add}
use native.Mathlib.Nat.{mod-one, mul-mod_left, zero-mod}
use lib.Pow.{mod-pow-add, high, low, ones_lt}
use lib.Bits.{bit_and, and_block, and_shifted, and_self}
use lib.Count.{ones, ones_cat, count_trailing_zeros, under}
use Rattle.std.proofs.lemmas.Bool.{cases_lt}
use Rattle.std.proofs.lemmas.Nat.{pow_below, div_below}
use Rattle.std.specs.Int.{bit_at}
use Rattle.words.specs.Bits.{ones_under}

ones_digit : (d : ℕ) → d < 2 → ones d ≡ d
unfolding ones
ones_digit zero h = refl
ones_digit (suc zero) h = refl
ones_digit (suc (suc d)) h = absurd (omega arith)

-- one place more
pub ones_under_more : (n m : ℕ) → (ones_under n (m + 1) ≡ ones_under n m + bit_at n m) × (bit_at n m < 2)
unfolding ones_under
ones_under_more n m = (ap (ones_under n) (add-one m), mod-lt (n / 2 ^ m) (pow_pos 1))

-- no more ones than places
pub ones_few : (w i : ℕ) → ones_under w i ≤ i
unfolding ones_under
ones_few w zero = omega arith
ones_few w (suc i) = omega (arith, ones_under_more w i, ones_few w i)

-- the count by places is the library's count of the low bits
pub below_is : (n m : ℕ) → ones_under n m ≡ ones (n % 2 ^ m)
unfolding ones_under
below_is n zero = sym (ap ones (mod-one n) ∙ ones_digit 0 (omega arith))
below_is n (suc m) =
    ap (λ x. x + bit_at n m) (below_is n m) ∙ add_comm (ones (n % 2 ^ m)) (bit_at n m)
    ∙ sym (ap (λ x. ones (n % 2 ^ x)) (sym (one-add m)) ∙ ap ones (mod-pow-add n 1 m)
    ∙ ones_cat m (bit_at n m) (n % 2 ^ m) (mod-lt n (pow_pos m)) ∙ ap (λ x. x + ones (n % 2 ^ m)) (ones_digit (bit_at n m) (mod-lt (n / 2 ^ m) (pow_pos 1))))

-- ---- the lowest one: a number that is not 0 is (h * 2 + 1) * 2 ^ t, where t is the count of its trailing zeros

lowest_one : (k x : ℕ) → 0 < x → x < 2 ^ k → (h : ℕ) × (x ≡ (h * 2 + 1) * 2 ^ count_trailing_zeros k x) × (count_trailing_zeros k x < k)
unfolding count_trailing_zeros
lowest_one zero x p l = absurd (omega arith)
lowest_one (suc k) x p l = go (λ a b. lowest_one k (x / 2) a b) (x % 2) refl
  where
    t : ℕ
    t = count_trailing_zeros k (x / 2)

    go : (0 < x / 2 → x / 2 < 2 ^ k → (h : ℕ) × (x / 2 ≡ (h * 2 + 1) * 2 ^ t) × (t < k))
        → (d : ℕ) → x % 2 ≡ d → (h : ℕ) × (x ≡ (h * 2 + 1) * 2 ^ under (x % 2) t) × (under (x % 2) t < suc k)
    go rec zero e =
        let q : x / 2 < 2 ^ k = div_below x 2 (2 ^ k) (omega arith) (omega (arith, pow-suc 2 k)) in
        let half : 0 < x / 2 = omega (arith, div-add-mod' x 2, e, p) in
        let ih : (h : ℕ) × (x / 2 ≡ (h * 2 + 1) * 2 ^ t) × (t < k) = rec half q in
        let u : under (x % 2) t ≡ suc t = ap (λ d. under d t) e in (
          ih.0,
          sym (div-add-mod' x 2) ∙ ap₂ (λ a b. a * 2 + b) ih.1 e ∙ add-zero _ ∙ mul_assoc (ih.0 * 2 + 1) (2 ^ t) 2
              ∙ ap (λ a. (ih.0 * 2 + 1) * a) (sym (pow-suc 2 t)) ∙ ap (λ a. (ih.0 * 2 + 1) * 2 ^ a) (sym u),
          omega (arith, ih.2, u),
        )
    go rec (suc d) e =
        let u : under (x % 2) t ≡ zero = ap (λ d. under d t) e in
        let odd : x ≡ x / 2 * 2 + 1 = omega arith in
        (x / 2, odd ∙ sym (mul-one (x / 2 * 2 + 1)) ∙ ap (λ a. (x / 2 * 2 + 1) * 2 ^ a) (sym u), omega (arith, u))

-- a multiple of 2 ^ t has no one below t
multiple : (a t n : ℕ) → n ≤ t → a * 2 ^ t % 2 ^ n ≡ 0
multiple a t n l =
    let e : (t - n) + n ≡ t = omega arith in
    ap (λ x. x % 2 ^ n) (ap (λ x. a * 2 ^ x) (sym e) ∙ ap (λ x. a * x) (pow-add 2 (t - n) n) ∙ sym (mul_assoc a (2 ^ (t - n)) (2 ^ n)))
    ∙ mul-mod_left (a * 2 ^ (t - n)) (2 ^ n)

ones_pow : (t : ℕ) → ones (2 ^ t) ≡ 1
ones_pow t = ap ones (sym (add-zero (1 * 2 ^ t) ∙ one-mul (2 ^ t))) ∙ ones_cat t 1 0 (pow_pos t) ∙ ap₂ ◌+◌ (ones_digit 1 (omega arith)) (ones_digit 0 (omega arith))

-- the ones below a place past i, of a number with s in its bits below i
past : (h i s m : ℕ) → s < 2 ^ i → ones_under (h * 2 ^ i + s) (m + i) ≡ ones (h % 2 ^ m) + ones s
past h i s m l =
    below_is (h * 2 ^ i + s) (m + i)
    ∙ ap ones (mod-pow-add (h * 2 ^ i + s) m i ∙ ap₂ (λ a b. a % 2 ^ m * 2 ^ i + b) (high h i l) (low h i l))
    ∙ ones_cat i (h % 2 ^ m) s l

-- a later place has no fewer ones below it
pub ones_mono : (n i j : ℕ) → i ≤ j → ones_under n i ≤ ones_under n j
ones_mono n i zero l = let e : i ≡ 0 = omega arith in omega (arith, ap (ones_under n) e)
ones_mono n i (suc j) l =
    ⊎_elim (λ (g : i < suc j). omega (arith, ap (ones_under n) (sym (add-one j)), (ones_under_more n j).0, ones_mono n i j (omega arith)))
    (λ (g : suc j ≤ i). let e : i ≡ suc j = omega arith in omega (arith, ap (ones_under n) e)) (cases_lt i (suc j))

-- no ones past a number's width
pub none_past : (w k i n : ℕ) → w < 2 ^ k → k ≤ i → ones_under w n ≤ ones_under w i
none_past w k i n l g =
    ⊎_elim
    (λ (h : i < n).
    let a : w % 2 ^ i ≡ w = mod-eq_of_lt (lt_of_lt_of_le l (pow_mono g)) in
    let b : w % 2 ^ n ≡ w = mod-eq_of_lt (lt_of_lt_of_le l (pow_mono (omega arith))) in
    omega (arith, below_is w i ∙ ap ones a, below_is w n ∙ ap ones b))
    (λ (h : n ≤ i). ones_mono w n i h) (cases_lt i n)

-- a number without its bits below place i has the ones from there on
pub from_place : (w i n : ℕ) → ones_under (w / 2 ^ i * 2 ^ i) n ≡ ones_under w n - ones_under w i
from_place w i n =
    let h : ℕ = w / 2 ^ i in
    let s : ℕ = w % 2 ^ i in
    let small : s < 2 ^ i = mod-lt w (pow_pos i) in
    let is : w ≡ h * 2 ^ i + s = sym (div-add-mod' w (2 ^ i)) in
    ⊎_elim
    (λ (g : i < n).
    let m : ℕ = n - i in
    let at : n ≡ m + i = omega arith in
    omega (
      arith,
      ap (ones_under (h * 2 ^ i)) at ∙ ap (λ a. ones_under a (m + i)) (sym (add-zero (h * 2 ^ i))) ∙ past h i 0 m (pow_pos i) ∙ ap (λ a. ones (h % 2 ^ m) + a) (ones_digit 0 (omega arith)),
      ap (ones_under w) at ∙ ap (λ a. ones_under a (m + i)) is ∙ past h i s m small,
      below_is w i,
    ))
    (λ (g : n ≤ i). omega (arith, ones_mono w n i g, below_is (h * 2 ^ i) n ∙ ap ones (multiple h i n g) ∙ ones_digit 0 (omega arith)))
    (cases_lt i n)

pub record Lowest (x t : ℕ) : Type 0 where
  pub under : t < 64
  pub before : ones_under x t ≡ 0
  pub here : ones_under x (t + 1) ≡ 1
  pub rest : (n : ℕ) → ones_under (bit_and x (x - 1)) n ≡ ones_under x n - 1

pub lowest : (x : ℕ) → 0 < x → x < 2 ^ 64 → Lowest x (count_trailing_zeros 64 x)
lowest x p l = go (count_trailing_zeros 64 x) (lowest_one 64 x p l)
  where
    go : (t : ℕ) → (h : ℕ) × (x ≡ (h * 2 + 1) * 2 ^ t) × (t < 64) → Lowest x t
    go t (h, e, small) =
        let top : h * 2 ^ (1 + t) ≡ h * 2 * 2 ^ t = ap (λ a. h * a) (pow-add 2 1 t) ∙ sym (mul_assoc h 2 (2 ^ t)) in
        let is : x ≡ h * 2 ^ (1 + t) + 2 ^ t = omega (arith, e, top, add-mul (h * 2) 1 (2 ^ t)) in
        let low-lt : 2 ^ t < 2 ^ (1 + t) = pow_below t (1 + t) (omega arith) in
        let less : x - 1 ≡ h * 2 ^ (1 + t) + (2 ^ t - 1) = omega (arith, is, pow_pos t) in
        let cut : bit_and x (x - 1) ≡ h * 2 ^ (1 + t) + 0 =
        ap₂ bit_and is less ∙ and_block (1 + t) h h (2 ^ t) (2 ^ t - 1) low-lt (omega (arith, low-lt))
        ∙ ap₂ (λ a b. a * 2 ^ (1 + t) + b) (and_self h)
        (ap (λ a. bit_and a (2 ^ t - 1)) (sym (one-mul (2 ^ t))) ∙ and_shifted 1 t (2 ^ t - 1) (ones_lt t)) in
        let none : (n : ℕ) → n ≤ t → ones_under x n ≡ 0 =
        λ n le. below_is x n ∙ ap ones (ap (λ a. a % 2 ^ n) e ∙ multiple (h * 2 + 1) t n le) ∙ ones_digit 0 (omega arith) in
        let one : (m : ℕ) → ones_under x (m + (1 + t)) ≡ ones (h % 2 ^ m) + 1 =
        λ m. ap (λ a. ones_under a (m + (1 + t))) is ∙ past h (1 + t) (2 ^ t) m low-lt ∙ ap (λ a. ones (h % 2 ^ m) + a) (ones_pow t) in
        let zeros : (m : ℕ) → ones_under (bit_and x (x - 1)) (m + (1 + t)) ≡ ones (h % 2 ^ m) + 0 =
        λ m. ap (λ a. ones_under a (m + (1 + t))) cut ∙ past h (1 + t) 0 m (pow_pos (1 + t)) ∙ ap (λ a. ones (h % 2 ^ m) + a) (ones_digit 0 (omega arith)) in
        record {
          under = small;
          before = none t (omega arith);
          here = ap (ones_under x) (add_comm t 1 ∙ sym (zero-add (1 + t))) ∙ one 0 ∙ ap (λ a. a + 1) (ap ones (mod-one h) ∙ ones_digit 0 (omega arith));
          rest = λ n. ⊎_elim
              (λ (g : t < n).
              let m : ℕ = n - (1 + t) in
              let at : n ≡ m + (1 + t) = omega arith in
              omega (arith, ap (ones_under x) at ∙ one m, ap (ones_under (bit_and x (x - 1))) at ∙ zeros m))
              (λ (g : n ≤ t). omega (
                arith,
                none n g,
                below_is (bit_and x (x - 1)) n
                    ∙ ap ones (ap (λ a. a % 2 ^ n) (cut ∙ add-zero _ ∙ top) ∙ multiple (h * 2) t n g) ∙ ones_digit 0 (omega arith),
              ))
              (cases_lt t n);
        }

pub below_zero : (m : ℕ) → ones_under 0 m ≡ 0
below_zero m = below_is 0 m ∙ ap ones (zero-mod (2 ^ m)) ∙ ones_digit 0 (omega arith)
