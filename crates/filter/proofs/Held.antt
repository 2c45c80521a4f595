-- What words that hold a layout give a filter: the fingerprints read back are those that were laid out.
use Rattle.std.proofs.Common.{◌≡◌, ℕ, zero, suc, ◌+◌, ◌-◌, ◌*◌, ◌/◌, ◌^◌, ◌<◌, ◌≤◌, ◌⊎◌, List, [], ◌++◌, length, get_or, take, replicate, sym, ap, ◌∙◌, subst, inl, inr, ⊎_elim, mul-le-mul_right, div-mul-le_self, arith, shr_lt}
use Rattle.std.specs.List.{AllByRecursion as Every}
use Rattle.std.proofs.ByRecursion.{All-get_or, All-from_get_or}
use Rattle.std.proofs.lemmas.List.{length-replicate, take_at}
use Rattle.std.proofs.lemmas.List.FromFn.{length-map-range_with_len}
use Rattle.std.proofs.lemmas.Bool.{cases_lt}
use Rattle.words.proofs.Rows.{Words}
use Rattle.layout.specs.Rule.{quotient, Sorted, sorted, many_from, Crowded, Roomy}
use Rattle.layout.specs.Format.{filter_words, block_count}
use Rattle.layout.proofs.Inserts.{sorted_sorted, all_sorted}
use Rattle.layout.proofs.Rooms.{any_order_law, bound_law}
use Rattle.blocks.specs.Views.{Shows}
use Rattle.blocks.proofs.Forms.{words_from_views, views_from_words}
use Rattle.blocks.proofs.Readings.{read_back, zeros_show, word_none}
use Rattle.filter.specs.Meaning.{size_of, fingerprints_in, entries_of, Sound}

pub sorted_is : (ps : List ℕ) → sorted ps ≡ ps → Sorted ps
sorted_is ps e = subst Sorted e (sorted_sorted ps)

-- the blocks have room in the words
pub size_room : (r n : ℕ) → size_of r (block_count r n) ≤ n
size_room r n =
    let few : block_count r n ≤ n / (r + 3) = omega arith in
    omega (arith, div-mul-le_self n (r + 3), mul-le-mul_right (r + 3) few)

pub words_length : (r blocks : ℕ) (ps : List ℕ) → length (filter_words r blocks ps) ≡ size_of r blocks
unfolding filter_words
words_length r blocks ps = length-map-range_with_len _ 0 (blocks * (r + 3))

-- what stands after the words of the blocks is not of them
pub front : (r blocks : ℕ) (ps tail : List ℕ) → take (size_of r blocks) (filter_words r blocks ps ++ tail) ≡ filter_words r blocks ps
front r blocks ps tail = take_at (filter_words r blocks ps) tail (size_of r blocks) (words_length r blocks ps)

-- crowding does not see the order of a list
pub room_any_order : (slots r : ℕ) (ps : List ℕ) → Roomy slots r (sorted ps) → Roomy slots r ps
room_any_order slots r ps h c l = h c (omega (arith, any_order_law r ps c))

pub any_order_room : (slots r : ℕ) (ps : List ℕ) → Roomy slots r ps → Roomy slots r (sorted ps)
any_order_room slots r ps h c l = h c (omega (arith, any_order_law r ps c))

-- where not all have room, some quotient is crowded
module _ (slots r : ℕ) (ps : List ℕ) where
  crowded_below : (n : ℕ) → ((c : ℕ) × (c < n) × Crowded slots r ps c) ⊎ ((c : ℕ) → c < n → Crowded slots r ps c → ⊥)
  crowded_below zero = inr (λ c l h. omega arith)
  crowded_below (suc n) =
      ⊎_elim (λ w. inl (w.0, omega (arith, w.1), w.2))
      (λ none. ⊎_elim
      (λ (l : slots - n < many_from r ps n). inl (n, omega arith, l))
      (λ (l : many_from r ps n ≤ slots - n). inr (λ c g h. ⊎_elim (λ (k : c < n). none c k h) (λ (k : n ≤ c). let e : c ≡ n = omega arith in omega (arith, h, ap (many_from r ps) e)) (cases_lt c n)))
      (cases_lt (slots - n) (many_from r ps n)))
      (crowded_below n)

  pub find_crowded : (bound : ℕ) → Every (λ p. quotient r p < bound) ps → (Roomy slots r ps → ⊥) → (c : ℕ) × (c < bound) × Crowded slots r ps c
  find_crowded bound under full =
      ⊎_elim (λ w. w)
      (λ none. absurd (full (λ c h. ⊎_elim (λ (l : c < bound). none c l h) (λ (l : bound ≤ c). bound_law slots r bound ps under c l h) (cases_lt c bound))))
      (crowded_below bound)

-- fingerprints under a plan have quotients under it
pub quotients_under : (q r : ℕ) (ps : List ℕ) → ((k : ℕ) → k < length ps → get_or ps k 0 < 2 ^ (q + r)) → Every (λ p. quotient r p < 2 ^ q) ps
unfolding quotient
quotients_under q r ps h = All-from_get_or (λ p. quotient r p < 2 ^ q) ps 0 (λ k l. shr_lt q r (h k l))

module _ (r blocks : ℕ) (pos : 0 < r) (few : blocks ≤ 16640) where
  -- all words 0 are the layout of no fingerprints
  pub zeros_are : replicate (size_of r blocks) 0 ≡ filter_words r blocks []
  unfolding sorted
  zeros_are =
      words_from_views r [] pos (replicate (size_of r blocks) 0) small (zeros_show r (size_of r blocks)) blocks (length-replicate {A = ℕ} (size_of r blocks) 0)
    where
      small : Words (replicate (size_of r blocks) 0)
      small k = omega (arith, word_none (size_of r blocks) k)

  module _ (ps tail ws : List ℕ) (order : sorted ps ≡ ps) (room : Roomy (64 * blocks) r ps) (is : ws ≡ filter_words r blocks ps ++ tail) where
    own_is : take (size_of r blocks) ws ≡ filter_words r blocks ps
    own_is =
        ap (take (size_of r blocks)) is ∙ front r blocks ps tail

    pub entries_are : entries_of r blocks ws ≡ ps
    entries_are =
        read_back r (64 * blocks) (take (size_of r blocks) ws) ps (sorted_is ps order) room
        (subst (Shows r (take (size_of r blocks) ws)) order
        (views_from_words r ps pos blocks (subst (Roomy (64 * blocks) r) (sym order) room) (omega arith) (take (size_of r blocks) ws) own_is))

-- a bound on each of a list is one on each in rising order
pub narrow_sorted : (bound : ℕ) (ps : List ℕ) → ((k : ℕ) → k < length ps → get_or ps k 0 < bound) → (k : ℕ) → k < length (sorted ps) → get_or (sorted ps) k 0 < bound
narrow_sorted bound ps h k l =
    All-get_or (λ p. p < bound) (sorted ps) k 0 l (all_sorted (λ p. p < bound) ps (All-from_get_or (λ p. p < bound) ps 0 h))

-- the facts of the filter's type
pub record Facts (q r blocks held : ℕ) (ws : List ℕ) : Type 0 where
  pub sized : blocks ≡ block_count r (length ws)
  pub laid : take (size_of r blocks) ws ≡ filter_words r blocks (entries_of r blocks ws)
  pub rising : sorted (entries_of r blocks ws) ≡ entries_of r blocks ws
  pub roomy : Roomy (64 * blocks) r (entries_of r blocks ws)
  pub narrow : (k : ℕ) → k < length (entries_of r blocks ws) → get_or (entries_of r blocks ws) k 0 < 2 ^ (q + r)
  pub counted : held ≡ length (entries_of r blocks ws)

pub facts : (q r blocks held : ℕ) (ps tail ws : List ℕ) → 0 < r → blocks ≡ block_count r (length ws)
    → sorted ps ≡ ps → Roomy (64 * blocks) r ps → ((k : ℕ) → k < length ps → get_or ps k 0 < 2 ^ (q + r)) → held ≡ length ps
    → ws ≡ filter_words r blocks ps ++ tail → Facts q r blocks held ws
facts q r blocks held ps tail ws pos sized order room narrow count is =
    let few : blocks ≤ 16640 = omega arith in
    let e : entries_of r blocks ws ≡ ps = entries_are r blocks pos few ps tail ws order room is in
    record {
      sized = sized;
      laid = own_is r blocks pos few ps tail ws order room is ∙ ap (filter_words r blocks) (sym e);
      rising = subst (λ x. sorted x ≡ x) (sym e) order;
      roomy = subst (Roomy (64 * blocks) r) (sym e) room;
      narrow = subst (λ x. (k : ℕ) → k < length x → get_or x k 0 < 2 ^ (q + r)) (sym e) narrow;
      counted = count ∙ ap length (sym e);
    }

-- words that are the layout of the list that they hold are sound
pub sound_words : (r blocks : ℕ) (ws : List ℕ) → 0 < r → blocks ≤ 16640 → ws ≡ filter_words r blocks (fingerprints_in r blocks ws) → sorted (fingerprints_in r blocks ws) ≡ fingerprints_in r blocks ws
    → Roomy (64 * blocks) r (fingerprints_in r blocks ws) → Sound r blocks ws
sound_words r blocks ws pos few laid rising roomy = record {
  few = few;
  sized = ap length laid ∙ words_length r blocks (fingerprints_in r blocks ws);
  rising = sorted_is (fingerprints_in r blocks ws) rising;
  roomy = roomy;
  shows = subst (Shows r ws) rising (views_from_words r (fingerprints_in r blocks ws) pos blocks (subst (Roomy (64 * blocks) r) (sym rising) roomy) (omega arith) ws laid);
}
