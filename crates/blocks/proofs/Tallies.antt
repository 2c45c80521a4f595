-- The ones of the occupied and runend rows, counted by the words of the blocks.
use Rattle.std.proofs.Common.{◌≡◌, ℕ, zero, suc, ◌+◌, ◌-◌, ◌*◌, ◌/◌, ◌%◌, ◌<◌, ◌≤◌, List, length, get_or, refl, ap, ◌∙◌, ap₂, ⊎_elim, mul-le-mul_right, arith}
use Rattle.std.proofs.lemmas.List.{get_or_past}
use Rattle.std.proofs.lemmas.Bool.{cases_lt}
use Rattle.std.specs.Int.{bit_at}
use Rattle.words.specs.Bits.{ones_under}
use Rattle.words.proofs.Fields.{bit_lt}
use Rattle.layout.specs.Load.{tally}
use Rattle.layout.proofs.Ranks.{tally_step, tally_mono}
use Rattle.blocks.proofs.Forms.{bit_of_none}
use Rattle.blocks.specs.Views.{word_index, occupied_bit_in, runend_in}

-- one place more
pub tally_more : (f : ℕ → ℕ) (n : ℕ) → tally f (n + 1) ≡ tally f n + f n
tally_more f n = let e : n + 1 ≡ suc n = omega arith in ap (tally f) e ∙ tally_step f n

pub ones_step : (w i : ℕ) → ones_under w (suc i) ≡ ones_under w i + bit_at w i
unfolding ones_under
ones_step w i = refl

pub ones_none : (w : ℕ) → ones_under w 0 ≡ 0
unfolding ones_under
ones_none w = refl

module _ (r : ℕ) (ws : List ℕ) (m : ℕ) where
  -- the row of the m-th words of the blocks: bit k % 64 of word m of block k / 64
  abbrev pub row_at : ℕ → ℕ
  row_at k = bit_at (get_or ws (word_index r (k / 64) m) 0) (k % 64)

  pub row_bit_is : (b i : ℕ) → i < 64 → row_at (64 * b + i) ≡ bit_at (get_or ws (word_index r b m) 0) i
  row_bit_is b i l =
      let block : (64 * b + i) / 64 ≡ b = omega arith in
      let inner : (64 * b + i) % 64 ≡ i = omega arith in
      ap₂ (λ x y. bit_at (get_or ws (word_index r x m) 0) y) block inner

  -- the ones of a row up to place i of block b are those below the block and those of its word
  pub row_ones : (b i : ℕ) → i ≤ 64 → tally row_at (64 * b + i) ≡ tally row_at (64 * b) + ones_under (get_or ws (word_index r b m) 0) i
  row_ones b zero l = let e : 64 * b + 0 ≡ 64 * b = omega arith in omega (arith, ap (tally row_at) e, ones_none (get_or ws (word_index r b m) 0))
  row_ones b (suc i) l =
      let e : 64 * b + suc i ≡ suc (64 * b + i) = omega arith in
      omega (
        arith,
        ap (tally row_at) e,
        tally_step row_at (64 * b + i),
        row_bit_is b i (omega arith),
        row_ones b i (omega arith),
        ones_step (get_or ws (word_index r b m) 0) i,
      )

  -- past the words a row has no ones
  pub row_past : (b n : ℕ) → length ws ≤ word_index r b m → tally row_at (64 * b + n) ≡ tally row_at (64 * b)
  row_past b zero l = let e : 64 * b + 0 ≡ 64 * b = omega arith in ap (tally row_at) e
  row_past b (suc n) l =
      let e : 64 * b + suc n ≡ suc (64 * b + n) = omega arith in
      let d : ℕ = (64 * b + n) / 64 in
      let on : b ≤ d = omega arith in
      let past : get_or ws (word_index r d m) 0 ≡ 0 = get_or_past ws (word_index r d m) 0 (omega (arith, mul-le-mul_right (r + 3) on)) in
      omega (
        arith,
        ap (tally row_at) e,
        tally_step row_at (64 * b + n),
        ap (λ x. bit_at x ((64 * b + n) % 64)) past ∙ bit_of_none ((64 * b + n) % 64),
        row_past b n l,
      )

module _ (r : ℕ) (ws : List ℕ) where
  pub occupied_bit : (b i : ℕ) → i < 64 → occupied_bit_in r ws (64 * b + i) ≡ bit_at (get_or ws (word_index r b 0) 0) i
  unfolding occupied_bit_in
  occupied_bit b i l = row_bit_is r ws 0 b i l

  pub occupied_ones : (b i : ℕ) → i ≤ 64 → tally (occupied_bit_in r ws) (64 * b + i) ≡ tally (occupied_bit_in r ws) (64 * b) + ones_under (get_or ws (word_index r b 0) 0) i
  unfolding occupied_bit_in
  occupied_ones b i l = row_ones r ws 0 b i l

  pub runend_bit : (b i : ℕ) → i < 64 → runend_in r ws (64 * b + i) ≡ bit_at (get_or ws (word_index r b 1) 0) i
  unfolding runend_in
  runend_bit b i l = row_bit_is r ws 1 b i l

  pub runend_ones : (b i : ℕ) → i ≤ 64 → tally (runend_in r ws) (64 * b + i) ≡ tally (runend_in r ws) (64 * b) + ones_under (get_or ws (word_index r b 1) 0) i
  unfolding runend_in
  runend_ones b i l = row_ones r ws 1 b i l

  pub runend_past : (b n : ℕ) → length ws ≤ word_index r b 1 → tally (runend_in r ws) (64 * b + n) ≡ tally (runend_in r ws) (64 * b)
  unfolding runend_in
  runend_past b n l = row_past r ws 1 b n l

  -- past the words no place has more runends below it than slot s has
  pub runend_most : (b s x : ℕ) → length ws ≤ word_index r b 1 → 64 * b ≤ s → tally (runend_in r ws) x ≤ tally (runend_in r ws) s
  runend_most b s x l g =
      let f : ℕ → ℕ = runend_in r ws in
      ⊎_elim (λ (h : x < s). tally_mono f x s (omega arith))
      (λ (h : s ≤ x).
      let e : 64 * b + (x - 64 * b) ≡ x = omega arith in
      omega (arith, ap (tally f) e, runend_past b (x - 64 * b) l, tally_mono f (64 * b) s g))
      (cases_lt x s)

module _ (r : ℕ) (ws : List ℕ) where
  occupied_two : (c : ℕ) → occupied_bit_in r ws c < 2
  unfolding occupied_bit_in
  occupied_two c = bit_lt (get_or ws (word_index r (c / 64) 0) 0) (c % 64)

  -- no more occupied quotients than quotients
  pub occupied_few : (a n : ℕ) → tally (occupied_bit_in r ws) (a + n) ≤ tally (occupied_bit_in r ws) a + n
  occupied_few a zero = let z : a + 0 ≡ a = omega arith in omega (arith, ap (tally (occupied_bit_in r ws)) z)
  occupied_few a (suc n) =
      let z : a + suc n ≡ suc (a + n) = omega arith in
      omega (arith, ap (tally (occupied_bit_in r ws)) z, tally_step (occupied_bit_in r ws) (a + n), occupied_few a n, occupied_two (a + n))
