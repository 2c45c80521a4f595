-- Room, rank and select, of the rule.
use Rattle.std.proofs.Common.{◌≡◌, ℕ, suc, ◌+◌, ◌-◌, ◌<◌, ◌≤◌, max, Bool, true, false, cond, eqb, ltb, leb, List, [], ◌∷◌, ◌++◌, length, filter, sym, refl, ap, ◌∙◌, subst, ⊎_elim, arith}
use Rattle.std.specs.List.{AllByRecursion as Every}
use Rattle.std.proofs.lemmas.List.{length-append, append-nil}
use Rattle.std.proofs.lemmas.Bool.{cases_lt, cases_order, cond-false, lt-leb}
use Rattle.layout.specs.Load.{start, tally, rank, Select, Tails, Uncrowded}
use Rattle.layout.specs.Rule.{one_if, quotient, Sorted, with_one, without_one, sorted, laid, used_at, remainder_at, runend_at, offset_at, quotient_run, many, many_from, occupied_at, Roomy}
use Rattle.layout.specs.Runs.{remainders}
use Rattle.layout.specs.Laws.{RoomLaw, RoomLoadLaw, InsertRoomLaw, RemoveRoomLaw, AnyOrderLaw, BoundLaw, UsedLaw, UsedJumpLaw, last_slot, SelectSlotsLaw, RankSlotsLaw, BlockSlotsLaw, SelectOneLaw}
use Rattle.layout.proofs.Loads.{find_free, jump_law}
use Rattle.layout.proofs.Crowds.{served, uncrowded, insert_crowding_law}
use Rattle.layout.proofs.Ranks.{tally_step, tally_mono, rank_is, selected, in_block}
use Rattle.layout.proofs.Splits.{lower, upper, upper_step, halves}
use Rattle.layout.specs.Places.{slot_after}
use Rattle.layout.proofs.Bridge.{after_mono, starts, empty, layout_law, offset_law}
use Rattle.layout.proofs.Moves.{used_is, bit_pos}
use Rattle.layout.proofs.Inserts.{sorted_insert, sorted_sorted, kept_insert, kept_remove, one_insert, length_insert}

pub tails : (r : ℕ) (ps : List ℕ) → Sorted ps → Tails (many r ps) (many_from r ps)
tails r ps s x = ap length (upper_step r ps x s) ∙ length-append (quotient_run r ps x) (upper r ps (suc x))

pub to_numbers : (slots r : ℕ) (ps : List ℕ) → Roomy slots r ps → Uncrowded slots (many_from r ps)
to_numbers slots r ps h c = ⊎_elim (λ (l : slots - c < many_from r ps c). absurd (h c l)) (λ (l : many_from r ps c ≤ slots - c). l) (cases_lt (slots - c) (many_from r ps c))

pub from_numbers : (slots r : ℕ) (ps : List ℕ) → Uncrowded slots (many_from r ps) → Roomy slots r ps
from_numbers slots r ps h c l = omega (arith, h c)

pub room_load_law : RoomLoadLaw
room_load_law slots r ps s = (
  λ h. served slots (many r ps) (many_from r ps) (tails r ps s) (to_numbers slots r ps h),
  λ h. from_numbers slots r ps (uncrowded slots (many r ps) (many_from r ps) (tails r ps s) h),
)

-- ---- the places of the rule

module _ (r slots : ℕ) where
  places_below : (next : ℕ) (ps : List ℕ) → slot_after r next ps ≤ slots → Every (λ e. e.slot < slots) (laid r next ps)
  unfolding laid
  places_below next [] l = tt
  places_below next (p ∷ ps) l = let k : ℕ = max (quotient r p) next in (omega (arith, after_mono r (suc k) ps), places_below (suc k) ps l)

  after_below : (next : ℕ) (ps : List ℕ) → next ≤ slots → Every (λ e. e.slot < slots) (laid r next ps) → (slot_after r next ps ≤ slots) × (many_from r ps slots ≡ 0)
  unfolding laid
  after_below next [] l a = (l, refl)
  after_below next (p ∷ ps) l (g, a) =
      let ih = after_below (suc (max (quotient r p) next)) ps (omega arith) a in
      (ih.0, ap length (cond-false (leb slots (quotient r p)) (p ∷ upper r ps slots) (upper r ps slots) (lt-leb slots (quotient r p) (omega arith))) ∙ ih.1)

  all_lower : (ps : List ℕ) → Sorted ps → many_from r ps slots ≡ 0 → lower r ps slots ≡ ps
  all_lower ps s e = sym (halves r ps slots s ∙ ap (λ l. lower r ps slots ++ l) (empty (upper r ps slots) (omega arith)) ∙ append-nil (lower r ps slots))

pub room_law : RoomLaw
room_law slots r ps s = (
  λ h. let w = (room_load_law slots r ps s).0 h in
      places_below r slots 0 ps (omega (arith, w.0, starts r ps s slots, ap (slot_after r 0) (all_lower r slots ps s w.1))),
  λ a. let w = after_below r slots 0 ps (omega arith) a in
      (room_load_law slots r ps s).1 (omega (arith, w.0, starts r ps s slots, ap (slot_after r 0) (all_lower r slots ps s w.1)), w.1),
)

-- the slot after the last entry tells how many slots it takes
pub room_after : (slots r : ℕ) (ps : List ℕ) → Sorted ps → (Roomy slots r ps → slot_after r 0 ps ≤ slots) × (slot_after r 0 ps ≤ slots → Roomy slots r ps)
room_after slots r ps s = (
  λ h. (after_below r slots 0 ps (omega arith) ((room_law slots r ps s).0 h)).0,
  λ l. (room_law slots r ps s).1 (places_below r slots 0 ps l),
)

pub insert_room_law : InsertRoomLaw
insert_room_law slots r p ps s h =
    let law = insert_crowding_law slots (many r ps) (many r (with_one p ps)) (many_from r ps) (many_from r (with_one p ps)) (quotient r p)
    (one_insert r p ps s) (tails r ps s) (tails r (with_one p ps) (sorted_insert p ps s)) (to_numbers slots r ps h) in (
      λ g. ⊎_elim (λ f. (f.0, f.1, omega (arith, f.2, f.1.from)))
          (λ full. absurd (law.1 (λ x l k. full x l (omega arith)) (to_numbers slots r (with_one p ps) g)))
          (find_free (many r ps) (quotient r p) (slots - quotient r p)),
      λ u f l. from_numbers slots r (with_one p ps) (law.0 u f l
          (ap length (kept_insert (λ q. leb slots (quotient r q)) p ps s ∙ cond-false (leb slots (quotient r p)) _ _ (lt-leb slots (quotient r p) (omega (arith, f.from)))))),
    )

length_remove : (p : ℕ) (ps : List ℕ) → length (without_one p ps) ≤ length ps
unfolding without_one
length_remove p [] = omega arith
length_remove p (q ∷ qs) = elim (eqb p q) as (λ b. length (cond b qs (q ∷ without_one p qs)) ≤ suc (length qs)) [ true ↦ omega arith | false ↦ omega (arith, length_remove p qs) ]

pub remove_room_law : RemoveRoomLaw
remove_room_law slots r p ps h c l =
    let t : ℕ → Bool = λ q. leb c (quotient r q) in
    let e = ap length (kept_remove t p ps) in
    let both : (b : Bool) → length (cond b (without_one p (filter t ps)) (filter t ps)) ≤ length (filter t ps) =
    elim [ true ↦ length_remove p (filter t ps) | false ↦ omega arith ] in
    h c (omega (arith, e, both (t p)))

pub count_sorted : (t : ℕ → Bool) (ps : List ℕ) → length (filter t (sorted ps)) ≡ length (filter t ps)
unfolding sorted
count_sorted t [] = refl
count_sorted t (p ∷ ps) =
    ap length (kept_insert t p (sorted ps) (sorted_sorted ps))
    ∙ elim (t p) as (λ b. length (cond b (with_one p (filter t (sorted ps))) (filter t (sorted ps))) ≡ length (cond b (p ∷ filter t ps) (filter t ps)))
    [ true ↦ length_insert p (filter t (sorted ps)) ∙ ap suc (count_sorted t ps) | false ↦ count_sorted t ps ]

pub any_order_law : AnyOrderLaw
any_order_law r ps c = count_sorted (λ p. leb c (quotient r p)) ps

pub none_from : (r bound : ℕ) (ps : List ℕ) → Every (λ p. quotient r p < bound) ps → (c : ℕ) → bound ≤ c → upper r ps c ≡ []
none_from r bound [] a c l = refl
none_from r bound (p ∷ ps) (k, a) c l = rw (lt-leb c (quotient r p) (omega arith)) (none_from r bound ps a c l)

pub bound_law : BoundLaw
bound_law slots r bound ps a c l g = omega (arith, g, ap length (none_from r bound ps a c l))

-- ---- the slots that are used

pub used_law : UsedLaw
used_law r ps s t =
    used_is (many r ps) (remainders r ps) (used_at (laid r 0 ps)) (remainder_at r (laid r 0 ps)) (runend_at r (laid r 0 ps)) (layout_law r ps s) t
    ∙ ap (λ k. one_if (ltb 0 (k + many r ps t))) (sym (offset_law r ps s t))

pub used_jump_law : UsedJumpLaw
used_jump_law r ps s x y l g =
    used_law r ps s y ∙ bit_pos (offset_at r (laid r 0 ps) y + many r ps y)
    (omega (arith, offset_law r ps s y, offset_law r ps s x, (jump_law (many r ps) x y l).0 (omega (arith, g, offset_law r ps s x))))

-- ---- rank and select

module _ (r : ℕ) (ps : List ℕ) (s : Sorted ps) where
  last_is : (c : ℕ) → last_slot r ps c ≡ (start (many r ps) c + many r ps c) - 1
  last_is c = ap (λ k. ((c + k) + many r ps c) - 1) (offset_law r ps s c)

pub rank_slots_law : RankSlotsLaw
rank_slots_law r ps s x =
    ap (λ k. tally (runend_at r (laid r 0 ps)) (x + k)) (offset_law r ps s x) ∙ rank_is (many r ps) (runend_at r (laid r 0 ps)) (layout_law r ps s).ends x

pub select_slots_law : SelectSlotsLaw
select_slots_law r ps s c l =
    subst (Select (runend_at r (laid r 0 ps)) (rank (occupied_at r ps) c)) (sym (last_is r ps s c)) (selected (many r ps) (runend_at r (laid r 0 ps)) (layout_law r ps s).ends c l)

pub block_slots_law : BlockSlotsLaw
block_slots_law r ps s x c l g =
    let b = in_block (many r ps) (runend_at r (laid r 0 ps)) (layout_law r ps s).ends x c l g in
    let z : suc (last_slot r ps c) ≡ start (many r ps) c + many r ps c = omega (arith, last_is r ps s c, g) in (
      omega (arith, b.0, last_is r ps s c, offset_law r ps s x),
      ap (tally (runend_at r (laid r 0 ps))) z ∙ b.1
          ∙ ap (λ k. tally (runend_at r (laid r 0 ps)) (x + k) + (rank (occupied_at r ps) c - tally (occupied_at r ps) x)) (sym (offset_law r ps s x)),
    )

pub select_one_law : SelectOneLaw
select_one_law f k e d a b =
    ⊎_elim (λ (z : e ≡ d). z)
    (λ o. ⊎_elim
    (λ (l : e < d). absurd (omega (arith, a.nth, b.nth, b.one, tally_step f d, tally_mono f (suc e) d l)))
    (λ (l : d < e). absurd (omega (arith, a.nth, b.nth, a.one, tally_step f e, tally_mono f (suc d) e l))) o)
    (cases_order e d)
