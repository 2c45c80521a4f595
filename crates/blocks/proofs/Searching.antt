-- The k-th one of a block's runends from a place on is the k-th runend from there on.
use Rattle.std.proofs.Common.{◌≡◌, ℕ, suc, ◌+◌, ◌-◌, ◌*◌, ◌<◌, ◌≤◌, min, List, get_or, Some, ap, ⊎_elim, arith}
use Rattle.std.proofs.lemmas.Bool.{cases_lt}
use Rattle.std.specs.Int.{bit_at}
use Rattle.words.specs.Bits.{ones_under, Selected}
use Rattle.layout.specs.Load.{tally}
use Rattle.layout.proofs.Ranks.{tally_mono}
use Rattle.blocks.specs.Views.{word_index, runend_in}
use Rattle.blocks.specs.Searches.{FoundRunend, AfterRunends}
use Rattle.words.proofs.Ones.{ones_mono}
use Rattle.blocks.proofs.Tallies.{tally_more, ones_step, runend_bit, runend_ones}

-- v has the ones of a block's second word from place i on: the k-th of them is the k-th runend from there on
pub found : (r : ℕ) (ws : List ℕ) (b i k p w v : ℕ) → w ≡ get_or ws (word_index r b 1) 0 → i ≤ 64
    → ((n : ℕ) → ones_under v n ≡ ones_under w n - ones_under w i) → Selected v k (Some p) → FoundRunend r ws (64 * b + i) k (64 * b + p)
found r ws b i k p w v e l rest s =
    let next = ones_step w p in
    let one = ones_step v p in
    let after : i ≤ p =
    ⊎_elim (λ (g : p < i). absurd (omega (arith, rest p, rest (suc p), one, s.1, ones_mono w (suc p) i g))) (λ (g : i ≤ p). g) (cases_lt p i) in
    let mono = ones_mono w i p after in
    record {
      from = omega arith;
      one = omega (arith, runend_bit r ws b p s.0, ap (λ x. bit_at x p) e, next, one, rest p, rest (suc p), s.1);
      nth = omega (
        arith,
        tally_more (runend_in r ws) (64 * b + p),
        runend_bit r ws b p s.0,
        runend_ones r ws b p (omega (arith, s.0)),
        runend_ones r ws b i (omega arith),
        ap (λ x. bit_at x p) e,
        ap (λ x. ones_under x p) e,
        ap (λ x. ones_under x i) e,
        next,
        one,
        rest p,
        rest (suc p),
        s.1,
        s.2,
      );
    }

-- and where there are fewer than k, the block has fewer runends from there on
pub fewer : (r : ℕ) (ws : List ℕ) (b i k w v : ℕ) → w ≡ get_or ws (word_index r b 1) 0 → i ≤ 64
    → ((n : ℕ) → ones_under v n ≡ ones_under w n - ones_under w i) → ones_under v 64 < k
    → tally (runend_in r ws) (64 * b + 64) < tally (runend_in r ws) (64 * b + i) + k
fewer r ws b i k w v e l rest s =
    omega (
      arith,
      rest 64,
      ones_mono w i 64 l,
      runend_ones r ws b 64 (omega arith),
      runend_ones r ws b i l,
      ap (λ x. ones_under x 64) e,
      ap (λ x. ones_under x i) e,
    )

-- the slot after the k-th runend from slot x on is not before x, and has k runends more below it
pub after_count : (r : ℕ) (ws : List ℕ) (x k s : ℕ) → AfterRunends r ws x k s → (x ≤ s) × (tally (runend_in r ws) s ≡ tally (runend_in r ws) x + k)
after_count r ws x k s a =
    ⊎_elim
    (λ (l : 0 < k).
    let w = a.some l in
    let e : s ≡ w.0 + 1 = omega (arith, w.2) in
    (omega (arith, w.1.from), omega (arith, ap (tally (runend_in r ws)) e, w.1.nth)))
    (λ (l : k ≤ 0).
    let e : s ≡ x = a.none (omega arith) in
    (omega arith, omega (arith, ap (tally (runend_in r ws)) e)))
    (cases_lt 0 k)

-- the runends of block b from its place o on and below its place i are the ones of its second word there
pub ended : (r : ℕ) (ws : List ℕ) (b o i w : ℕ) → w ≡ get_or ws (word_index r b 1) 0 → i < 64
    → ones_under w i - ones_under w (min o 64) ≡ tally (runend_in r ws) (64 * b + i) - tally (runend_in r ws) (64 * b + o)
ended r ws b o i w e l =
    let f : ℕ → ℕ = runend_in r ws in
    let upto = runend_ones r ws b i (omega arith) in
    let is = ap (λ x. ones_under x i) e in
    ⊎_elim
    (λ (g : o < 64).
    let at : min o 64 ≡ o = omega arith in
    omega (arith, upto, is, runend_ones r ws b o (omega arith), ap (λ x. ones_under x o) e, ap (ones_under w) at))
    (λ (g : 64 ≤ o).
    let at : min o 64 ≡ 64 = omega arith in
    omega (arith, ap (ones_under w) at, ones_mono w i 64 (omega arith), tally_mono f (64 * b + i) (64 * b + o) (omega arith)))
    (cases_lt o 64)
