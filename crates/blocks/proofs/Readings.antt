-- Reading back what words show.
use Rattle.std.proofs.Common.{◌≡◌, ℕ, zero, suc, ◌*◌, ◌/◌, ◌%◌, ◌^◌, ◌<◌, ◌≤◌, List, [], get_or, replicate, sym, refl, ap, ◌∙◌, ⊎_elim, arith}
use mathlib.Core.Path.{fun_ext}
use native.Mathlib.Nat.{zero-div, zero-mod}
use Rattle.std.proofs.lemmas.List.{get_or_past, get_or-replicate, length-replicate}
use Rattle.std.proofs.lemmas.Bool.{cases_lt}
use Rattle.std.specs.Int.{bit_at}
use Rattle.words.specs.Bits.{field}
use Rattle.words.specs.Row.{long_number}
use Rattle.layout.specs.Rule.{Sorted, Roomy, laid, occupied_at, remainder_at}
use Rattle.layout.specs.Laws.{read_from}
use Rattle.layout.proofs.Bounds.{empty_law}
use Rattle.layout.proofs.Passes.{quotients_below}
use Rattle.layout.proofs.ReadBack.{read_law}
use Rattle.blocks.proofs.Forms.{bit_of_none}
use Rattle.blocks.specs.Views.{word_index, remainder_place, occupied_bit_in, runend_in, offset_in, remainder_in, Shows, read_entries}

pub read_back : (r slots : ℕ) (ws ps : List ℕ) → Sorted ps → Roomy slots r ps → Shows r ws ps → read_entries r slots ws ≡ ps
read_back r slots ws ps s room shows =
    ap (λ f. read_from slots r f (remainder_in r ws) (runend_in r ws) slots 0 0) (fun_ext shows.occupied)
    ∙ ap (λ f. read_from slots r (occupied_at r ps) f (runend_in r ws) slots 0 0) (fun_ext shows.remainders)
    ∙ ap (λ f. read_from slots r (occupied_at r ps) (remainder_at r (laid r 0 ps)) f slots 0 0) (fun_ext shows.runends)
    ∙ read_law slots r slots ps s room (quotients_below slots r ps s room)

-- ---- words that are all 0 show no fingerprint

row_none : (n : ℕ) → long_number (replicate n 0) ≡ 0
unfolding long_number
row_none zero = refl
row_none (suc n) = omega (arith, row_none n)

pub word_none : (n k : ℕ) → get_or {A = ℕ} (replicate n 0) k 0 ≡ 0
word_none n k =
    ⊎_elim (λ (l : k < n). get_or-replicate n k 0 0 l)
    (λ (l : n ≤ k). get_or_past (replicate n 0) k 0 (omega (arith, length-replicate {A = ℕ} n 0))) (cases_lt k n)

pub zeros_show : (r n : ℕ) → Shows r (replicate n 0) []
unfolding occupied_bit_in runend_in offset_in remainder_in
zeros_show r n = record {
  occupied = λ c. ap (λ x. bit_at x (c % 64)) (word_none n (word_index r (c / 64) 0)) ∙ bit_of_none (c % 64) ∙ sym (empty_law 0 r c).1;
  runends = λ s. ap (λ x. bit_at x (s % 64)) (word_none n (word_index r (s / 64) 1)) ∙ bit_of_none (s % 64) ∙ sym (empty_law 0 r s).4;
  offsets = λ b. word_none n (word_index r b 2) ∙ sym (empty_law 0 r (64 * b)).5;
  remainders = λ s.
      ap (λ x. field x (remainder_place r s) r) (row_none n) ∙ ap (λ x. x % 2 ^ r) (zero-div (2 ^ remainder_place r s)) ∙ zero-mod (2 ^ r) ∙ sym (empty_law 0 r s).3;
}
