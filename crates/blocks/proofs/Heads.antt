-- What a write to one of the first three words of a block, or to the field of one slot, leaves.
use Rattle.std.proofs.Common.{◌≡◌, ℕ, ◌+◌, ◌*◌, ◌/◌, ◌%◌, ◌^◌, ◌<◌, ◌≤◌, cond, eqb, ◌≢◌, ◌⊎◌, List, length, get_or, set, sym, refl, ap, ◌∙◌, inl, inr, ⊎_elim, arith}
use Rattle.std.proofs.lemmas.List.{get_or-set_same, get_or-set_other}
use Rattle.std.proofs.lemmas.Bool.{cases_eq, cond_both, cond-true, cond-false, eq-eqb, ne_eqb, eqb-true, eqb-false}
use Rattle.std.specs.Int.{bit_at}
use Rattle.words.specs.Bits.{field}
use Rattle.words.specs.Row.{long_number}
use Rattle.words.proofs.Rows.{Words, word_is_field, set_word_other}
use Rattle.blocks.specs.Views.{word_index, remainder_place, occupied_bit_in, runend_in, offset_in, remainder_in}
use Rattle.blocks.specs.Writes.{WroteOccupied, WroteRunend, WroteOffset, WroteRemainder}
use Rattle.blocks.proofs.Parts.{words_apart, head_apart, slots_apart}

-- what a write at i makes of a row that was f
written : (f g : ℕ → ℕ) (i v : ℕ) → g i ≡ v → ((k : ℕ) → k ≢ i → g k ≡ f k) → (k : ℕ) → g k ≡ cond (eqb k i) v (f k)
written f g i v here other k =
    cond_both (eqb k i) v (f k) (λ x. g k ≡ x)
    (λ e. ap g (eqb-true k i e) ∙ here)
    (λ e. other k (eqb-false k i e))

module _ (r b m : ℕ) (ws : List ℕ) (v : ℕ) (small : m < 3) (room : word_index r b m < length ws) where
  head_written : get_or (set ws (word_index r b m) v) (word_index r b m) 0 ≡ v
  head_written = get_or-set_same ws (word_index r b m) v 0 room

  head_kept : (d n : ℕ) → n < 3 → ((d ≡ b) → (n ≡ m) → ⊥) → get_or (set ws (word_index r b m) v) (word_index r d n) 0 ≡ get_or ws (word_index r d n) 0
  head_kept d n l ne = get_or-set_other ws (word_index r b m) (word_index r d n) v 0 (λ e. let w = words_apart r b d m n (omega arith) (omega arith) e in ne w.0 w.1)

  -- bits of the m-th words of the blocks, where bit i of block b was written
  bits_after : (i u : ℕ) → i / 64 ≡ b → ((k : ℕ) → k < 64 → bit_at v k ≡ cond (eqb k (i % 64)) u (bit_at (get_or ws (word_index r b m) 0) k))
      → (k : ℕ) → bit_at (get_or (set ws (word_index r b m) v) (word_index r (k / 64) m) 0) (k % 64) ≡ cond (eqb k i) u (bit_at (get_or ws (word_index r (k / 64) m) 0) (k % 64))
  bits_after i u at h =
      let new : List ℕ = set ws (word_index r b m) v in
      let f : ℕ → ℕ = λ k. bit_at (get_or ws (word_index r (k / 64) m) 0) (k % 64) in
      let g : ℕ → ℕ = λ k. bit_at (get_or new (word_index r (k / 64) m) 0) (k % 64) in
      let inside : (k : ℕ) → k / 64 ≡ b → g k ≡ cond (eqb (k % 64) (i % 64)) u (f k) =
      λ k e. ap (λ x. bit_at x (k % 64)) (ap (λ d. get_or new (word_index r d m) 0) e ∙ head_written) ∙ h (k % 64) (omega arith)
      ∙ ap (λ d. cond (eqb (k % 64) (i % 64)) u (bit_at (get_or ws (word_index r d m) 0) (k % 64))) (sym e) in
      written f g i u
      (inside i at ∙ cond-true (eqb (i % 64) (i % 64)) u (f i) (eq-eqb (i % 64) (i % 64) refl))
      (λ k ne. ⊎_elim
      (λ (s : k / 64 ≡ b). inside k s ∙ cond-false (eqb (k % 64) (i % 64)) u (f k) (ne_eqb (k % 64) (i % 64) (λ z. ne (omega arith))))
      (λ (d : k / 64 ≢ b). ap (λ x. bit_at x (k % 64)) (head_kept (k / 64) m small (λ z _. d z)))
      (cases_eq (k / 64) b))

  fields_kept : Words ws → v < 2 ^ 64 → (k : ℕ) → remainder_in r (set ws (word_index r b m) v) k ≡ remainder_in r ws k
  unfolding remainder_in
  fields_kept h l k = set_word_other ws (word_index r b m) v (remainder_place r k) r h room l (head_apart r b m k small)

module _ (r : ℕ) (ws : List ℕ) (v : ℕ) (all : Words ws) (fits : v < 2 ^ 64) where
  pub wrote_occupied : (c u : ℕ) → word_index r (c / 64) 0 < length ws
      → ((k : ℕ) → k < 64 → bit_at v k ≡ cond (eqb k (c % 64)) u (bit_at (get_or ws (word_index r (c / 64) 0) 0) k))
      → WroteOccupied r ws (set ws (word_index r (c / 64) 0) v) c u
  unfolding occupied_bit_in runend_in offset_in
  wrote_occupied c u room h = record {
    occupied = bits_after r (c / 64) 0 ws v (omega arith) room c u refl h;
    runends = λ k. ap (λ x. bit_at x (k % 64)) (head_kept r (c / 64) 0 ws v (omega arith) room (k / 64) 1 (omega arith) (λ _ e. omega arith));
    offsets = λ k. head_kept r (c / 64) 0 ws v (omega arith) room k 2 (omega arith) (λ _ e. omega arith);
    remainders = fields_kept r (c / 64) 0 ws v (omega arith) room all fits;
  }

  pub wrote_runend : (s u : ℕ) → word_index r (s / 64) 1 < length ws
      → ((k : ℕ) → k < 64 → bit_at v k ≡ cond (eqb k (s % 64)) u (bit_at (get_or ws (word_index r (s / 64) 1) 0) k))
      → WroteRunend r ws (set ws (word_index r (s / 64) 1) v) s u
  unfolding occupied_bit_in runend_in offset_in
  wrote_runend s u room h = record {
    occupied = λ k. ap (λ x. bit_at x (k % 64)) (head_kept r (s / 64) 1 ws v (omega arith) room (k / 64) 0 (omega arith) (λ _ e. omega arith));
    runends = bits_after r (s / 64) 1 ws v (omega arith) room s u refl h;
    offsets = λ k. head_kept r (s / 64) 1 ws v (omega arith) room k 2 (omega arith) (λ _ e. omega arith);
    remainders = fields_kept r (s / 64) 1 ws v (omega arith) room all fits;
  }

  pub wrote_offset : (b : ℕ) → word_index r b 2 < length ws → WroteOffset r ws (set ws (word_index r b 2) v) b v
  unfolding occupied_bit_in runend_in offset_in
  wrote_offset b room = record {
    occupied = λ k. ap (λ x. bit_at x (k % 64)) (head_kept r b 2 ws v (omega arith) room (k / 64) 0 (omega arith) (λ _ e. omega arith));
    runends = λ k. ap (λ x. bit_at x (k % 64)) (head_kept r b 2 ws v (omega arith) room (k / 64) 1 (omega arith) (λ _ e. omega arith));
    offsets = written (offset_in r ws) (offset_in r (set ws (word_index r b 2) v)) b v (head_written r b 2 ws v (omega arith) room)
        (λ k ne. head_kept r b 2 ws v (omega arith) room k 2 (omega arith) (λ e _. ne e));
    remainders = fields_kept r b 2 ws v (omega arith) room all fits;
  }

-- a write of the field of slot s
pub wrote_remainder : (r : ℕ) (ws vs : List ℕ) (s v : ℕ) → Words ws → Words vs
    → field (long_number vs) (remainder_place r s) r ≡ v
    → ((p k : ℕ) → (p + k ≤ remainder_place r s) ⊎ (remainder_place r s + r ≤ p) → field (long_number vs) p k ≡ field (long_number ws) p k)
    → WroteRemainder r ws vs s v
unfolding occupied_bit_in runend_in offset_in remainder_in
wrote_remainder r ws vs s v hw hv here other =
    let head : (d n : ℕ) → n < 3 → get_or vs (word_index r d n) 0 ≡ get_or ws (word_index r d n) 0 =
    λ d n l. word_is_field vs hv (word_index r d n)
    ∙ other (64 * word_index r d n) 64 (⊎_elim (λ g. inr g) (λ g. inl g) (head_apart r d n s l))
    ∙ sym (word_is_field ws hw (word_index r d n)) in
    record {
      occupied = λ k. ap (λ x. bit_at x (k % 64)) (head (k / 64) 0 (omega arith));
      runends = λ k. ap (λ x. bit_at x (k % 64)) (head (k / 64) 1 (omega arith));
      offsets = λ k. head k 2 (omega arith);
      remainders = written (remainder_in r ws) (remainder_in r vs) s v here (λ k ne. other (remainder_place r k) r (slots_apart r s k ne));
    }
