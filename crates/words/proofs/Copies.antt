-- Bits copied within a row: into one word, one stretch after the other, and what it makes of fields.
use Rattle.std.proofs.Common.{◌≡◌, ℕ, ◌+◌, ◌-◌, ◌*◌, ◌/◌, ◌%◌, ◌^◌, ◌<◌, ◌≤◌, ◌≢◌, ◌⊎◌, List, length, get_or, set, sym, ap, ◌∙◌, subst, ap₂, inl, inr, ⊎_elim, add-zero, mod-lt, mul_assoc, add-mul, add_comm, arith, pow_pos, pow-add}
use native.Mathlib.Nat.{mul-mod_left}
use lib.Pow.{high, low, split, shr_lt, shl-shr, mod-pow-add}
use lib.Bits.{bit_or, or_shifted}
use Rattle.std.proofs.lemmas.List.{get_or-set_same, get_or-set_other}
use Rattle.std.proofs.lemmas.Bool.{cases_lt, cases_eq}
use Rattle.std.specs.Int.{bit_at}
use Rattle.words.specs.Bits.{field}
use Rattle.words.specs.Row.{long_number, Copied}
use Rattle.words.proofs.Fields.{field_lt, shr_past, low_low, field_low, bit_field, field_by_bits}
use Rattle.words.proofs.Rows.{Words, bit_row, pair, field_pair}

-- the word at `at`, written from a window v
pub copied_word : (ws vs : List ℕ) (from at count v x : ℕ) → Words ws → Words vs → at % 64 + count ≤ 64 → at / 64 < length ws → vs ≡ set ws (at / 64) x
    → ((k : ℕ) → k ≤ 64 → v % 2 ^ k ≡ field (long_number ws) from k)
    → ((i : ℕ) → i < count → bit_at x (at % 64 + i) ≡ bit_at v i)
    → ((i : ℕ) → (i < at % 64) ⊎ (at % 64 + count ≤ i) → bit_at x i ≡ bit_at (get_or ws (at / 64) 0) i)
    → Copied (long_number ws) (long_number vs) from at count
copied_word ws vs from at count v x hw hv one room is window new old =
    let here : get_or vs (at / 64) 0 ≡ x = ap (λ l. get_or l (at / 64) 0) is ∙ get_or-set_same ws (at / 64) x 0 room in
    record {
      here = λ i l.
          let word : (at + i) / 64 ≡ at / 64 = omega arith in
          let inner : (at + i) % 64 ≡ at % 64 + i = omega arith in
          bit_row vs hv (at + i) ∙ ap₂ (λ j k. bit_at (get_or vs j 0) k) word inner ∙ ap (λ n. bit_at n (at % 64 + i)) here ∙ new i l
          ∙ sym (field_low v i 1 64 (omega arith)) ∙ ap (λ n. bit_at n i) (window 64 (omega arith)) ∙ bit_field (long_number ws) from 64 i (omega arith);
      others = λ i o. bit_row vs hv i ∙ ⊎_elim
          (λ (e : i / 64 ≡ at / 64).
          ap (λ j. bit_at (get_or vs j 0) (i % 64)) e ∙ ap (λ n. bit_at n (i % 64)) here
          ∙ old (i % 64) (⊎_elim (λ g. inl (omega arith)) (λ g. inr (omega arith)) o)
          ∙ sym (ap (λ j. bit_at (get_or ws j 0) (i % 64)) e))
          (λ (ne : i / 64 ≢ at / 64). ap (λ n. bit_at n (i % 64)) (ap (λ l. get_or l (i / 64) 0) is ∙ get_or-set_other ws (at / 64) (i / 64) x 0 ne))
          (cases_eq (i / 64) (at / 64)) ∙ sym (bit_row ws hw i);
    }

-- two words shifted into one
pub across_is : (hi lo i j : ℕ) → i + j ≡ 64 → lo < 2 ^ 64 → bit_or ((hi * 2 ^ j) % 2 ^ 64) (lo / 2 ^ i) ≡ (hi * 2 ^ 64 + lo) / 2 ^ i % 2 ^ 64
across_is hi lo i j e h =
    let small : lo / 2 ^ i < 2 ^ j = shr_lt j i (subst (λ x. lo < 2 ^ x) (sym e ∙ add_comm i j) h) in
    let whole : (hi * 2 ^ 64 + lo) / 2 ^ i ≡ hi * 2 ^ j + lo / 2 ^ i =
    ap (λ x. (hi * 2 ^ x + lo) / 2 ^ i) (sym e ∙ add_comm i j) ∙ ap (λ x. (x + lo) / 2 ^ i) (ap (λ x. hi * x) (pow-add 2 j i) ∙ sym (mul_assoc hi (2 ^ j) (2 ^ i)))
    ∙ ap (λ x. (hi * 2 ^ j * 2 ^ i + x) / 2 ^ i) (sym (split lo i)) ∙ parts (hi * 2 ^ j) (lo / 2 ^ i) (lo % 2 ^ i) (mod-lt lo (pow_pos i)) in
    let cut : (n : ℕ) → n % 2 ^ 64 ≡ (n / 2 ^ j % 2 ^ i) * 2 ^ j + n % 2 ^ j = λ n. ap (λ x. n % 2 ^ x) (sym e) ∙ mod-pow-add n i j in
    ap (λ x. bit_or x (lo / 2 ^ i)) (cut (hi * 2 ^ j) ∙ ap₂ (λ x y. x % 2 ^ i * 2 ^ j + y) (shl-shr hi j) (mul-mod_left hi (2 ^ j)) ∙ add-zero (hi % 2 ^ i * 2 ^ j))
    ∙ or_shifted (hi % 2 ^ i) j (lo / 2 ^ i) small
    ∙ sym (ap (λ x. x % 2 ^ 64) whole ∙ cut (hi * 2 ^ j + lo / 2 ^ i) ∙ ap₂ (λ x y. x % 2 ^ i * 2 ^ j + y) (high hi j small) (low hi j small))
  where
    parts : (a b r : ℕ) → r < 2 ^ i → (a * 2 ^ i + (b * 2 ^ i + r)) / 2 ^ i ≡ a + b
    parts a b r l = ap (λ x. x / 2 ^ i) (omega (arith, add-mul a b (2 ^ i))) ∙ high (a + b) i l

-- the word at `at`, written whole from two words that stand next to each other
pub copied_whole : (ws vs : List ℕ) (from at x : ℕ) → Words ws → Words vs → at % 64 ≡ 0 → at / 64 < length ws → vs ≡ set ws (at / 64) x
    → x ≡ field (pair ws (from / 64)) (from % 64) 64
    → Copied (long_number ws) (long_number vs) from at 64
copied_whole ws vs from at x hw hv whole room is made =
    copied_word ws vs from at 64 x x hw hv (omega arith) room is
    (λ k l. ap (λ n. n % 2 ^ k) (made ∙ sym (field_pair ws from 64 hw (omega arith))) ∙ low_low (long_number ws / 2 ^ from) 64 k l)
    (λ i l. let e : at % 64 + i ≡ i = omega arith in ap (bit_at x) e)
    (λ i o. ⊎_elim (λ (l : i < at % 64). absurd (omega arith))
    (λ (l : at % 64 + 64 ≤ i).
    let none : (n : ℕ) → n < 2 ^ 64 → bit_at n i ≡ 0 = λ n h. ap (λ y. y % 2) (shr_past n 64 i h (omega arith)) in
    none x (rw made (field_lt (pair ws (from / 64)) (from % 64) 64)) ∙ sym (none (get_or ws (at / 64) 0) (hw (at / 64)))) o)

-- s places up, from the highest place down to `at`, and then down to `low`
pub copied_up : (n m l s to at low : ℕ) → s ≤ low → low ≤ at → at ≤ to → Copied n m (at - s) at (to - at) → Copied m l (low - s) low (at - low)
    → Copied n l (low - s) low (to - low)
copied_up n m l s to at low room lo hi done more = record {
  here = λ i h. ⊎_elim
      (λ (g : i < at - low). more.here i g ∙ done.others ((low - s) + i) (inl (omega arith)))
      (λ (g : at - low ≤ i).
      let place : low + i ≡ at + (i - (at - low)) = omega arith in
      let source : (at - s) + (i - (at - low)) ≡ (low - s) + i = omega arith in
      more.others (low + i) (inr (omega arith)) ∙ ap (bit_at m) place ∙ done.here (i - (at - low)) (omega arith) ∙ ap (bit_at n) source)
      (cases_lt i (at - low));
  others = λ i o.
      more.others i (⊎_elim (λ g. inl g) (λ g. inr (omega arith)) o) ∙ done.others i (⊎_elim (λ g. inl (omega arith)) (λ g. inr (omega arith)) o);
}

-- s places down, from place `from` up to `at`, and then up to `high`
pub copied_down : (n m l s from at high : ℕ) → from ≤ at → at ≤ high → Copied n m (from + s) from (at - from) → Copied m l (at + s) at (high - at)
    → Copied n l (from + s) from (high - from)
copied_down n m l s from at high lo hi done more = record {
  here = λ i h. ⊎_elim
      (λ (g : i < at - from). more.others (from + i) (inl (omega arith)) ∙ done.here i g)
      (λ (g : at - from ≤ i).
      let place : from + i ≡ at + (i - (at - from)) = omega arith in
      let source : (at + s) + (i - (at - from)) ≡ (from + s) + i = omega arith in
      ap (bit_at l) place ∙ more.here (i - (at - from)) (omega arith) ∙ ap (bit_at m) source ∙ done.others ((from + s) + i) (inr (omega arith)))
      (cases_lt i (at - from));
  others = λ i o.
      more.others i (⊎_elim (λ g. inl (omega arith)) (λ g. inr (omega arith)) o) ∙ done.others i (⊎_elim (λ g. inl g) (λ g. inr (omega arith)) o);
}

-- the same places and the same count, written in another way
pub copied_same : (n m f f' a a' c c' : ℕ) → f ≡ f' → a ≡ a' → c ≡ c' → Copied n m f a c → Copied n m f' a' c'
copied_same n m f f' a a' c c' ef ea ec h = subst (λ x. Copied n m x a' c') ef (subst (λ x. Copied n m f x c') ea (subst (λ x. Copied n m f a x) ec h))

-- a field within the copied bits, and one apart from them
pub copied_field : (n m from at count i k : ℕ) → Copied n m from at count → i + k ≤ count → field m (at + i) k ≡ field n (from + i) k
copied_field n m from at count i k c l =
    field_by_bits m n (at + i) (from + i) k (λ j h.
    let place : (at + i) + j ≡ at + (i + j) = omega arith in
    let source : from + (i + j) ≡ (from + i) + j = omega arith in
    ap (bit_at m) place ∙ c.here (i + j) (omega arith) ∙ ap (bit_at n) source)

pub kept_field : (n m from at count p k : ℕ) → Copied n m from at count → (p + k ≤ at) ⊎ (at + count ≤ p) → field m p k ≡ field n p k
kept_field n m from at count p k c o =
    field_by_bits m n p p k (λ j h. c.others (p + j) (⊎_elim (λ g. inl (omega arith)) (λ g. inr (omega arith)) o))
