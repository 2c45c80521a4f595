-- The words of a layout do not see the order of the list.
use Rattle.std.proofs.Common.{◌≡◌, ℕ, ◌+◌, ◌-◌, ◌*◌, ◌/◌, ◌%◌, cond, eqb, ltb, List, map, ap, ap₂}
use mathlib.Core.Path.{fun_ext}
use Rattle.std.specs.List.{range_with_len}
use Rattle.std.specs.Int.{bit_at}
use Rattle.words.specs.Bits.{bits}
use Rattle.layout.specs.Rule.{one_if, quotient, sorted, Entry, laid, occupied_at, runend_at, offset_at, remainder_at}
use Rattle.layout.specs.Format.{block_word, filter_words}
use Rattle.layout.proofs.Bags.{count_law}
use Rattle.layout.proofs.Inserts.{sorted_sorted}
use Rattle.layout.proofs.Rooms.{count_sorted}

pub occupied_sorted : (r : ℕ) (ps : List ℕ) (c : ℕ) → occupied_at r (sorted ps) c ≡ occupied_at r ps c
occupied_sorted r ps c = ap (λ n. one_if (ltb 0 n)) (count_sorted (λ p. eqb (quotient r p) c) ps)

word_any_order : (r : ℕ) (ps : List ℕ) (b m : ℕ) → block_word r (sorted ps) b m ≡ block_word r ps b m
unfolding block_word
word_any_order r ps b m =
    let word : (ℕ → ℕ) → List Entry → ℕ = λ occupied es.
    cond (eqb m 0) (bits (λ i. occupied (64 * b + i)) 64)
    (cond (eqb m 1) (bits (λ i. runend_at r es (64 * b + i)) 64)
    (cond (eqb m 2) (offset_at r es (64 * b))
    (bits (λ i. bit_at (remainder_at r es (64 * b + (64 * (m - 3) + i) / r)) ((64 * (m - 3) + i) % r)) 64))) in
    ap₂ word (fun_ext (occupied_sorted r ps)) (ap (laid r 0) ((count_law 0 0 (sorted ps)).3 (sorted_sorted ps)))

pub words_any_order : (r blocks : ℕ) (ps : List ℕ) → filter_words r blocks (sorted ps) ≡ filter_words r blocks ps
unfolding filter_words
words_any_order r blocks ps =
    ap (λ f. map f (range_with_len 0 (blocks * (r + 3)))) (fun_ext (λ k. word_any_order r ps (k / (r + 3)) (k % (r + 3))))
