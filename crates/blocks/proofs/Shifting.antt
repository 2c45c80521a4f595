-- Rows of bits and of fields moved by one slot within a block, as words show them.
use Rattle.std.proofs.Common.{◌≡◌, ℕ, suc, ◌+◌, ◌-◌, ◌*◌, ◌/◌, ◌%◌, ◌<◌, ◌≤◌, ◌≢◌, List, get_or, sym, refl, ap, ◌∙◌, inl, inr, ⊎_elim, arith}
use Rattle.std.proofs.lemmas.Bool.{cases_order}
use Rattle.std.specs.Int.{bit_at}
use Rattle.words.specs.Bits.{field}
use Rattle.words.specs.Row.{long_number, Copied}
use Rattle.words.proofs.Fields.{bit_field}
use Rattle.words.proofs.Rows.{Words, word_is_field}
use Rattle.words.proofs.Copies.{copied_field, kept_field}
use Rattle.blocks.specs.Views.{word_index, runend_place, remainder_place, occupied_bit_in, runend_in, offset_in, remainder_in}
use Rattle.blocks.specs.Moves.{OnePlaceUp, OnePlaceDown, MovedUp, MovedDown}
use Rattle.blocks.proofs.Parts.{row_room, head_apart, row_apart, heads_apart, runend_next, place_next, runend_suc, place_suc}

-- ---- fields of w bits at rising places, of which those of the slots `from` to `to` follow each other

module _ (w : ℕ) (place : ℕ → ℕ) (next : (s t : ℕ) → s < t → place s + w ≤ place t) where
  rising : (s t : ℕ) → s ≤ t → place s ≤ place t
  rising s t l =
      ⊎_elim (λ (same : s ≡ t). omega (arith, ap place same))
      (λ o. ⊎_elim (λ (h : s < t). omega (arith, next s t h)) (λ (h : t < s). absurd (omega arith)) o)
      (cases_order s t)

  module _ (from to : ℕ) (order : from ≤ to) (each : (k : ℕ) → from ≤ k → k < to → place (suc k) ≡ place k + w)
      (f g : ℕ → ℕ) (n m : ℕ) (was : (s : ℕ) → f s ≡ field n (place s) w) (is : (s : ℕ) → g s ≡ field m (place s) w) where
    pub fields_up : Copied n m (place from) (place from + w) ((place to + w) - (place from + w)) → OnePlaceUp f g from to
    fields_up c = record {
      moved = λ k lo hi.
          let i : ℕ = place k - place from in
          let at : place (suc k) ≡ (place from + w) + i = omega (arith, each k lo hi, rising from k lo) in
          let source : place from + i ≡ place k = omega (arith, rising from k lo) in
          is (suc k) ∙ ap (λ p. field m p w) at
          ∙ copied_field n m (place from) (place from + w) ((place to + w) - (place from + w)) i w c (omega (arith, next k to hi))
          ∙ ap (λ p. field n p w) source ∙ sym (was k);
      below = λ k lo.
          is k ∙ kept_field n m (place from) (place from + w) ((place to + w) - (place from + w)) (place k) w c (inl (omega (arith, rising k from lo))) ∙ sym (was k);
      above = λ k hi.
          is k ∙ kept_field n m (place from) (place from + w) ((place to + w) - (place from + w)) (place k) w c
          (inr (omega (arith, rising from to order, next to k hi))) ∙ sym (was k);
    }

    pub fields_down : Copied n m (place from + w) (place from) ((place to + w) - (place from + w)) → OnePlaceDown f g from to
    fields_down c = record {
      moved = λ k lo hi.
          let i : ℕ = place k - place from in
          let at : place k ≡ place from + i = omega (arith, rising from k lo) in
          let source : (place from + w) + i ≡ place (suc k) = omega (arith, each k lo hi, rising from k lo) in
          is k ∙ ap (λ p. field m p w) at
          ∙ copied_field n m (place from + w) (place from) ((place to + w) - (place from + w)) i w c (omega (arith, next k to hi))
          ∙ ap (λ p. field n p w) source ∙ sym (was (suc k));
      below = λ k lo.
          is k ∙ kept_field n m (place from + w) (place from) ((place to + w) - (place from + w)) (place k) w c (inl (next k from lo)) ∙ sym (was k);
      above = λ k hi.
          is k ∙ kept_field n m (place from + w) (place from) ((place to + w) - (place from + w)) (place k) w c
          (inr (omega (arith, rising from to order, rising to k hi))) ∙ sym (was k);
    }

-- ---- first the runend bits of a block and then its remainders

runend_field : (r : ℕ) (ws : List ℕ) → Words ws → (s : ℕ) → runend_in r ws s ≡ field (long_number ws) (runend_place r s) 1
unfolding runend_in
runend_field r ws h s =
    ap (λ x. bit_at x (s % 64)) (word_is_field ws h (word_index r (s / 64) 1)) ∙ bit_field (long_number ws) (64 * word_index r (s / 64) 1) 64 (s % 64) (omega arith)

remainder_field : (r : ℕ) (ws : List ℕ) (s : ℕ) → remainder_in r ws s ≡ field (long_number ws) (remainder_place r s) r
unfolding remainder_in
remainder_field r ws s = refl

-- a place in the block of two slots
same_block : (from to k : ℕ) → from / 64 ≡ to / 64 → from ≤ k → k < to → k / 64 ≡ suc k / 64
same_block from to k e lo hi = omega arith

module _ (r : ℕ) (ws us vs : List ℕ) (hw : Words ws) (hu : Words us) (hv : Words vs) (from to : ℕ) (order : from ≤ to) (block : from / 64 ≡ to / 64) where
  -- what moves of bits within the runend word and within the row of remainders leave
  module _ (f1 a1 c1 f2 a2 c2 : ℕ) (bits : Copied (long_number ws) (long_number us) f1 a1 c1) (fields : Copied (long_number us) (long_number vs) f2 a2 c2)
      (lo1 : 64 * word_index r (to / 64) 1 ≤ a1) (hi1 : a1 + c1 ≤ 64 * word_index r (to / 64) 1 + 64)
      (lo2 : 64 * word_index r (to / 64) 3 ≤ a2) (hi2 : a2 + c2 ≤ 64 * word_index r (to / 64) 3 + 64 * r) where
    head_kept : (d n : ℕ) → n < 3 → get_or vs (word_index r d n) 0 ≡ get_or us (word_index r d n) 0
    head_kept d n l =
        word_is_field vs hv (word_index r d n)
        ∙ kept_field (long_number us) (long_number vs) f2 a2 c2 (64 * word_index r d n) 64 fields
        (⊎_elim (λ g. inl (omega arith)) (λ g. inr (omega arith)) (row_apart r (to / 64) d n l))
        ∙ sym (word_is_field us hu (word_index r d n))

    head_same : (d n : ℕ) → n < 3 → n ≢ 1 → get_or vs (word_index r d n) 0 ≡ get_or ws (word_index r d n) 0
    head_same d n l ne =
        head_kept d n l ∙ word_is_field us hu (word_index r d n)
        ∙ kept_field (long_number ws) (long_number us) f1 a1 c1 (64 * word_index r d n) 64 bits
        (⊎_elim (λ g. inl (omega arith)) (λ g. inr (omega arith)) (heads_apart r (to / 64) 1 d n (omega arith) l ne))
        ∙ sym (word_is_field ws hw (word_index r d n))

    occupied_same : (k : ℕ) → occupied_bit_in r vs k ≡ occupied_bit_in r ws k
    unfolding occupied_bit_in
    occupied_same k = ap (λ x. bit_at x (k % 64)) (head_same (k / 64) 0 (omega arith) (λ e. omega arith))

    offset_same : (k : ℕ) → offset_in r vs k ≡ offset_in r ws k
    unfolding offset_in
    offset_same k = head_same k 2 (omega arith) (λ e. omega arith)

    runend_same : (k : ℕ) → runend_in r vs k ≡ runend_in r us k
    unfolding runend_in
    runend_same k = ap (λ x. bit_at x (k % 64)) (head_kept (k / 64) 1 (omega arith))

    remainder_same : (k : ℕ) → remainder_in r ws k ≡ remainder_in r us k
    unfolding remainder_in
    remainder_same k =
        sym (kept_field (long_number ws) (long_number us) f1 a1 c1 (remainder_place r k) r bits
        (⊎_elim (λ g. inl (omega arith)) (λ g. inr (omega arith)) (head_apart r (to / 64) 1 k (omega arith))))

  -- where the slots lie
  runend_from : 64 * word_index r (to / 64) 1 ≤ runend_place r from
  runend_from = omega (arith, ap (λ x. x * (r + 3)) block)

  runend_to : runend_place r to + 1 ≤ 64 * word_index r (to / 64) 1 + 64
  runend_to = omega arith

  row_from : 64 * word_index r (to / 64) 3 ≤ remainder_place r from
  row_from = omega (arith, ap (λ x. x * (r + 3)) block)

  row_to : remainder_place r to + r ≤ 64 * word_index r (to / 64) 3 + 64 * r
  row_to = omega (arith, row_room to r)

  each_bit : (k : ℕ) → from ≤ k → k < to → runend_place r (suc k) ≡ runend_place r k + 1
  each_bit k lo hi = runend_suc r k (same_block from to k block lo hi)

  each_field : (k : ℕ) → from ≤ k → k < to → remainder_place r (suc k) ≡ remainder_place r k + r
  each_field k lo hi = place_suc r k (same_block from to k block lo hi)

  bits_in_order : runend_place r from ≤ runend_place r to
  bits_in_order = rising 1 (runend_place r) (runend_next r) from to order

  fields_in_order : remainder_place r from ≤ remainder_place r to
  fields_in_order = rising r (remainder_place r) (place_next r) from to order

  pub moved_up : Copied (long_number ws) (long_number us) (runend_place r from) (runend_place r from + 1) ((runend_place r to + 1) - (runend_place r from + 1))
      → Copied (long_number us) (long_number vs) (remainder_place r from) (remainder_place r from + r) ((remainder_place r to + r) - (remainder_place r from + r))
      → MovedUp r ws vs from to
  moved_up bits fields =
      let b1 : 64 * word_index r (to / 64) 1 ≤ runend_place r from + 1 = omega (arith, runend_from) in
      let e1 : (runend_place r from + 1) + ((runend_place r to + 1) - (runend_place r from + 1)) ≤ 64 * word_index r (to / 64) 1 + 64 = omega (arith, runend_to, bits_in_order) in
      let b2 : 64 * word_index r (to / 64) 3 ≤ remainder_place r from + r = omega (arith, row_from) in
      let e2 : (remainder_place r from + r) + ((remainder_place r to + r) - (remainder_place r from + r)) ≤ 64 * word_index r (to / 64) 3 + 64 * r = omega (arith, row_to, fields_in_order) in
      record {
        occupied = occupied_same _ _ _ _ _ _ bits fields b1 e1 b2 e2;
        runends = fields_up 1 (runend_place r) (runend_next r) from to order each_bit (runend_in r ws) (runend_in r vs) (long_number ws) (long_number us)
            (runend_field r ws hw) (λ k. runend_same _ _ _ _ _ _ bits fields b1 e1 b2 e2 k ∙ runend_field r us hu k) bits;
        offsets = offset_same _ _ _ _ _ _ bits fields b1 e1 b2 e2;
        remainders = fields_up r (remainder_place r) (place_next r) from to order each_field (remainder_in r ws) (remainder_in r vs) (long_number us) (long_number vs)
            (λ k. remainder_same _ _ _ _ _ _ bits fields b1 e1 b2 e2 k ∙ remainder_field r us k) (remainder_field r vs) fields;
      }

  pub moved_down : Copied (long_number ws) (long_number us) (runend_place r from + 1) (runend_place r from) ((runend_place r to + 1) - (runend_place r from + 1))
      → Copied (long_number us) (long_number vs) (remainder_place r from + r) (remainder_place r from) ((remainder_place r to + r) - (remainder_place r from + r))
      → MovedDown r ws vs from to
  moved_down bits fields =
      let e1 : runend_place r from + ((runend_place r to + 1) - (runend_place r from + 1)) ≤ 64 * word_index r (to / 64) 1 + 64 = omega (arith, runend_to, bits_in_order) in
      let e2 : remainder_place r from + ((remainder_place r to + r) - (remainder_place r from + r)) ≤ 64 * word_index r (to / 64) 3 + 64 * r = omega (arith, row_to, fields_in_order) in
      record {
        occupied = occupied_same _ _ _ _ _ _ bits fields runend_from e1 row_from e2;
        runends = fields_down 1 (runend_place r) (runend_next r) from to order each_bit (runend_in r ws) (runend_in r vs) (long_number ws) (long_number us)
            (runend_field r ws hw) (λ k. runend_same _ _ _ _ _ _ bits fields runend_from e1 row_from e2 k ∙ runend_field r us hu k) bits;
        offsets = offset_same _ _ _ _ _ _ bits fields runend_from e1 row_from e2;
        remainders = fields_down r (remainder_place r) (place_next r) from to order each_field (remainder_in r ws) (remainder_in r vs) (long_number us) (long_number vs)
            (λ k. remainder_same _ _ _ _ _ _ bits fields runend_from e1 row_from e2 k ∙ remainder_field r us k) (remainder_field r vs) fields;
      }
