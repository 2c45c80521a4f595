-- The writes of one entry, one after another, and what they make of the slots.
use Rattle.std.proofs.Common.{◌≡◌, ℕ, suc, ◌+◌, ◌-◌, ◌*◌, ◌/◌, ◌^◌, ◌<◌, ◌≤◌, Bool, true, false, cond, not, ◌&&◌, eqb, ltb, leb, ◌≢◌, List, length, sym, refl, ap, ◌∙◌, ⊎_elim, mul-le-mul_right, arith}
use Rattle.std.proofs.lemmas.Bool.{cases_eq, cases_lt, and_left, and_right, and_parts, ltb-true, leb-true, cond-true, cond-false, eq-eqb, ne_eqb, lt-ltb, le-ltb, le-leb, lt-leb}
use Rattle.layout.specs.Rule.{one_if}
use Rattle.blocks.specs.Views.{word_index, remainder_place, occupied_bit_in, runend_in, offset_in, remainder_in}
use Rattle.blocks.proofs.Parts.{head_inside, slot_inside}
use Rattle.blocks.specs.Writes.{WroteOccupied, WroteRunend, WroteRemainder}
use Rattle.blocks.specs.Moves.{BlockWithin, MovedUp, MovedDown, ChangedOffsets, raised, lowered}
use Rattle.filter.specs.Editing.{EntryPut, EntryGone}

-- the blocks whose first slot lies after c, and not after u
block_tests : (c u b : ℕ) → (leb (c / 64 + 1) b && ltb b (u / 64 + 1)) ≡ (ltb c (64 * b) && leb (64 * b) u)
block_tests c u b =
    let first : leb (c / 64 + 1) b ≡ ltb c (64 * b) =
    ⊎_elim (λ (l : c < 64 * b). le-leb (c / 64 + 1) b (omega arith) ∙ sym (lt-ltb c (64 * b) l)) (λ (l : 64 * b ≤ c). lt-leb (c / 64 + 1) b (omega arith) ∙ sym (le-ltb c (64 * b) l)) (cases_lt c (64 * b)) in
    let second : ltb b (u / 64 + 1) ≡ leb (64 * b) u =
    ⊎_elim (λ (l : u < 64 * b). le-ltb b (u / 64 + 1) (omega arith) ∙ sym (lt-leb (64 * b) u l)) (λ (l : 64 * b ≤ u). lt-ltb b (u / 64 + 1) (omega arith) ∙ sym (le-leb (64 * b) u l)) (cases_lt u (64 * b)) in
    ap (λ x. x && ltb b (u / 64 + 1)) first ∙ ap (λ x. ltb c (64 * b) && x) second

-- the block of a slot lies within the words where that of a later one does
within_below : (r : ℕ) (ws : List ℕ) (i s : ℕ) → i ≤ s → BlockWithin r ws s → BlockWithin r ws i
within_below r ws i s l h =
    let q : i / 64 + 1 ≤ s / 64 + 1 = omega arith in
    omega (arith, mul-le-mul_right (r + 3) q)

-- and so do the words of a slot
pub head_within : (r : ℕ) (ws : List ℕ) (s u m : ℕ) → s ≤ u → m < 3 → BlockWithin r ws u → word_index r (s / 64) m < length ws
head_within r ws s u m l g h = omega (arith, within_below r ws s u l h, head_inside r (s / 64) (s / 64 + 1) m (omega arith) g)

pub slot_within : (r : ℕ) (ws : List ℕ) (s u : ℕ) → s ≤ u → BlockWithin r ws u → remainder_place r s + r ≤ 64 * length ws
slot_within r ws s u l h = omega (arith, within_below r ws s u l h, slot_inside r s (s / 64 + 1) (omega arith))

-- a bit that is written at p stands there, and elsewhere the old one
elsewhere : (k p v w : ℕ) → k ≢ p → cond (eqb k p) v w ≡ w
elsewhere k p v w ne = cond-false (eqb k p) v w (ne_eqb k p ne)

there : (k p v w : ℕ) → k ≡ p → cond (eqb k p) v w ≡ v
there k p v w e = cond-true (eqb k p) v w (eq-eqb k p e)

-- the runend bit of the slot before p is v now, if `when` holds
pub record MarkedBefore (r : ℕ) (ws vs : List ℕ) (p : ℕ) (when : Bool) (v : ℕ) : Type 0 where
  pub occupied : (k : ℕ) → occupied_bit_in r vs k ≡ occupied_bit_in r ws k
  pub runends : (k : ℕ) → runend_in r vs k ≡ cond (eqb (suc k) p && when) v (runend_in r ws k)
  pub offsets : (k : ℕ) → offset_in r vs k ≡ offset_in r ws k
  pub remainders : (k : ℕ) → remainder_in r vs k ≡ remainder_in r ws k

-- the slot before p is another than k
unmarked : (k p v w : ℕ) (when : Bool) → suc k ≢ p → cond (eqb (suc k) p && when) v w ≡ w
unmarked k p v w when ne = cond-false (eqb (suc k) p && when) v w (and_left (eqb (suc k) p) when (ne_eqb (suc k) p ne))

marked : (k p v w : ℕ) (when : Bool) → suc k ≡ p → cond (eqb (suc k) p && when) v w ≡ cond when v w
marked k p v w when e = ap (λ x. cond (x && when) v w) (eq-eqb (suc k) p e)

-- the slot before p, by its own number and by the next
before_is : (k p : ℕ) → 0 < p → eqb k (p - 1) ≡ eqb (suc k) p
before_is k p l =
    ⊎_elim (λ (e : suc k ≡ p). eq-eqb k (p - 1) (omega arith) ∙ sym (eq-eqb (suc k) p e)) (λ (e : suc k ≢ p). ne_eqb k (p - 1) (λ z. e (omega arith)) ∙ sym (ne_eqb (suc k) p e)) (cases_eq (suc k) p)

-- the slot before p was marked, or was not to be
pub marked_one : (r : ℕ) (ws vs : List ℕ) (p v : ℕ) (when : Bool) → 0 < p → when ≡ true → WroteRunend r ws vs (p - 1) v → MarkedBefore r ws vs p when v
marked_one r ws vs p v when some set wrote = record {
  occupied = wrote.occupied;
  runends = λ k. wrote.runends k ∙ ap (λ x. cond x v (runend_in r ws k)) (before_is k p some ∙ with_true (eqb (suc k) p) when set);
  offsets = wrote.offsets;
  remainders = wrote.remainders;
}
  where
    and_one : (a : Bool) → a ≡ (a && true)
    and_one true = refl
    and_one false = refl

    with_true : (a b : Bool) → b ≡ true → a ≡ (a && b)
    with_true a b e = and_one a ∙ ap (λ x. a && x) (sym e)

pub marked_none : (r : ℕ) (ws : List ℕ) (p v : ℕ) (when : Bool) → when ≡ false → MarkedBefore r ws ws p when v
marked_none r ws p v when e = record {
  occupied = λ k. refl;
  runends = λ k. sym (cond-false (eqb (suc k) p && when) v (runend_in r ws k) (and_right (eqb (suc k) p) when e));
  offsets = λ k. refl;
  remainders = λ k. refl;
}

module _ (r : ℕ) (w0 w1 w2 w3 w4 w5 w6 : List ℕ) (c p u v : ℕ) where
  pub entry_put : (last follows : Bool) → p ≤ u → ((b : ℕ) → offset_in r w0 b < 2 ^ 32)
      → MovedUp r w0 w1 p u → WroteRemainder r w1 w2 p v → WroteRunend r w2 w3 p (cond last 1 0) → MarkedBefore r w3 w4 p follows 0
      → WroteOccupied r w4 w5 c 1 → ChangedOffsets raised r w5 w6 (c / 64 + 1) (u / 64 + 1) → EntryPut r w0 w6 c p u v last follows
  entry_put last follows le few move rem end mark occ offs =
      let rems : (k : ℕ) → remainder_in r w6 k ≡ cond (eqb k p) v (remainder_in r w1 k) =
      λ k. offs.remainders k ∙ occ.remainders k ∙ mark.remainders k ∙ end.remainders k ∙ rem.remainders k in
      let ends : (k : ℕ) → runend_in r w6 k ≡ cond (eqb (suc k) p && follows) 0 (cond (eqb k p) (cond last 1 0) (runend_in r w1 k)) =
      λ k. offs.runends k ∙ occ.runends k ∙ mark.runends k
      ∙ ap (cond (eqb (suc k) p && follows) 0) (end.runends k ∙ ap (cond (eqb k p) (cond last 1 0)) (rem.runends k)) in
      let same : (b : ℕ) → offset_in r w5 b ≡ offset_in r w0 b = λ b. occ.offsets b ∙ mark.offsets b ∙ end.offsets b ∙ rem.offsets b ∙ move.offsets b in
      record {
        occupied = λ k. offs.occupied k ∙ occ.occupied k ∙ ap (cond (eqb k c) 1) (mark.occupied k ∙ end.occupied k ∙ rem.occupied k ∙ move.occupied k);
        rem_below = λ k l. rems k ∙ elsewhere k p v (remainder_in r w1 k) (λ e. omega arith) ∙ move.remainders.below k (omega arith);
        rem_here = rems p ∙ there p p v (remainder_in r w1 p) refl;
        rem_moved = λ k lo hi. rems (suc k) ∙ elsewhere (suc k) p v (remainder_in r w1 (suc k)) (λ e. omega arith) ∙ move.remainders.moved k lo hi;
        rem_above = λ k hi. rems k ∙ elsewhere k p v (remainder_in r w1 k) (λ e. omega arith) ∙ move.remainders.above k hi;
        end_below = λ k l. ends k ∙ unmarked k p 0 _ follows (λ e. omega arith) ∙ elsewhere k p (cond last 1 0) (runend_in r w1 k) (λ e. omega arith) ∙ move.runends.below k (omega arith);
        end_before = λ k e. ends k ∙ marked k p 0 _ follows e ∙ ap (cond follows 0) (elsewhere k p (cond last 1 0) (runend_in r w1 k) (λ z. omega arith) ∙ move.runends.below k (omega arith));
        end_here = ends p ∙ unmarked p p 0 _ follows (λ e. omega arith) ∙ there p p (cond last 1 0) (runend_in r w1 p) refl;
        end_moved = λ k lo hi. ends (suc k) ∙ unmarked (suc k) p 0 _ follows (λ e. omega arith) ∙ elsewhere (suc k) p (cond last 1 0) (runend_in r w1 (suc k)) (λ e. omega arith) ∙ move.runends.moved k lo hi;
        end_above = λ k hi. ends k ∙ unmarked k p 0 _ follows (λ e. omega arith) ∙ elsewhere k p (cond last 1 0) (runend_in r w1 k) (λ e. omega arith) ∙ move.runends.above k hi;
        offsets = λ b. offs.offsets b ∙ ap (λ t. cond t (raised (offset_in r w5 b)) (offset_in r w5 b)) (block_tests c u b)
            ∙ ap (λ n. cond (ltb c (64 * b) && leb (64 * b) u) (raised n) n) (same b) ∙ one_more (ltb c (64 * b) && leb (64 * b) u) (offset_in r w0 b) (few b);
      }
    where
      one_more : (t : Bool) (n : ℕ) → n < 2 ^ 32 → cond t (raised n) n ≡ n + one_if t
      one_more true n l = omega arith
      one_more false n l = omega arith

  pub entry_gone : (follows only : Bool) → p ≤ u → ((b : ℕ) → c < 64 * b → 64 * b ≤ u → 0 < offset_in r w0 b)
      → MovedDown r w0 w1 p u → WroteRemainder r w1 w2 u 0 → WroteRunend r w2 w3 u 0 → MarkedBefore r w3 w4 p follows 1
      → WroteOccupied r w4 w5 c (cond (not only) 1 0) → ChangedOffsets lowered r w5 w6 (c / 64 + 1) (u / 64 + 1) → EntryGone r w0 w6 c p u follows only
  entry_gone follows only le waits move rem end mark occ offs =
      let rems : (k : ℕ) → remainder_in r w6 k ≡ cond (eqb k u) 0 (remainder_in r w1 k) =
      λ k. offs.remainders k ∙ occ.remainders k ∙ mark.remainders k ∙ end.remainders k ∙ rem.remainders k in
      let ends : (k : ℕ) → runend_in r w6 k ≡ cond (eqb (suc k) p && follows) 1 (cond (eqb k u) 0 (runend_in r w1 k)) =
      λ k. offs.runends k ∙ occ.runends k ∙ mark.runends k
      ∙ ap (cond (eqb (suc k) p && follows) 1) (end.runends k ∙ ap (cond (eqb k u) 0) (rem.runends k)) in
      let same : (b : ℕ) → offset_in r w5 b ≡ offset_in r w0 b = λ b. occ.offsets b ∙ mark.offsets b ∙ end.offsets b ∙ rem.offsets b ∙ move.offsets b in
      record {
        occupied = λ k. offs.occupied k ∙ occ.occupied k
            ∙ ap (λ x. cond (eqb k c) x (occupied_bit_in r w4 k)) (turned only) ∙ ap (cond (eqb k c) (cond only 0 1)) (mark.occupied k ∙ end.occupied k ∙ rem.occupied k ∙ move.occupied k);
        rem_below = λ k l. rems k ∙ elsewhere k u 0 (remainder_in r w1 k) (λ e. omega arith) ∙ move.remainders.below k l;
        rem_moved = λ k lo hi. rems k ∙ elsewhere k u 0 (remainder_in r w1 k) (λ e. omega arith) ∙ move.remainders.moved k lo hi;
        rem_gap = rems u ∙ there u u 0 (remainder_in r w1 u) refl;
        rem_above = λ k hi. rems k ∙ elsewhere k u 0 (remainder_in r w1 k) (λ e. omega arith) ∙ move.remainders.above k (omega arith);
        end_below = λ k l. ends k ∙ unmarked k p 1 _ follows (λ e. omega arith) ∙ elsewhere k u 0 (runend_in r w1 k) (λ e. omega arith) ∙ move.runends.below k (omega arith);
        end_before = λ k e. ends k ∙ marked k p 1 _ follows e ∙ ap (cond follows 1) (elsewhere k u 0 (runend_in r w1 k) (λ z. omega arith) ∙ move.runends.below k (omega arith));
        end_moved = λ k lo hi. ends k ∙ unmarked k p 1 _ follows (λ e. omega arith) ∙ elsewhere k u 0 (runend_in r w1 k) (λ e. omega arith) ∙ move.runends.moved k lo hi;
        end_gap = ends u ∙ unmarked u p 1 _ follows (λ e. omega arith) ∙ there u u 0 (runend_in r w1 u) refl;
        end_above = λ k hi. ends k ∙ unmarked k p 1 _ follows (λ e. omega arith) ∙ elsewhere k u 0 (runend_in r w1 k) (λ e. omega arith) ∙ move.runends.above k (omega arith);
        offsets = λ b.
            let t : Bool = ltb c (64 * b) && leb (64 * b) u in
            let down : offset_in r w6 b ≡ cond t (lowered (offset_in r w0 b)) (offset_in r w0 b) =
            offs.offsets b ∙ ap (λ x. cond x (lowered (offset_in r w5 b)) (offset_in r w5 b)) (block_tests c u b) ∙ ap (λ n. cond t (lowered n) n) (same b) in
            ap (λ n. n + one_if t) down ∙ one_less t (offset_in r w0 b)
            (λ e. let both = and_parts (ltb c (64 * b)) (leb (64 * b) u) e in waits b (ltb-true c (64 * b) both.0) (leb-true (64 * b) u both.1));
      }
    where
      turned : (only : Bool) → ◌≡◌ {A = ℕ} (cond (not only) 1 0) (cond only 0 1)
      turned true = refl
      turned false = refl

      one_less : (t : Bool) (n : ℕ) → (t ≡ true → 0 < n) → cond t (lowered n) n + one_if t ≡ n
      one_less true n l = omega (arith, l refl)
      one_less false n l = omega arith
