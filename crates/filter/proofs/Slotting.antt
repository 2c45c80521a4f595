-- Which quotient and remainder a slot shows, from the head of a block at or before it.
use Rattle.std.proofs.Common.{◌≡◌, ℕ, suc, ◌+◌, ◌-◌, ◌*◌, ◌/◌, ◌^◌, ◌<◌, ◌≤◌, ltb, ◌≢◌, ◌⊎◌, List, [], ◌∷◌, ◌++◌, length, get_or, take, Some, None, Option, sym, refl, ap, ◌∙◌, subst, ap₂, ⊎_elim, arith, MatchOption}
use Rattle.std.proofs.ByRecursion.{All-get_or}
use Rattle.std.proofs.lemmas.List.{take_more, take_all}
use Rattle.std.proofs.lemmas.Bool.{cases_lt, cases_eq, cond-true, lt-ltb}
use Rattle.layout.specs.Rule.{quotient, remainder, Sorted, Entry, laid, remainder_at, quotient_run, many, Roomy}
use Rattle.layout.specs.Load.{load, start, busy, tally, Select, EndsRuns}
use Rattle.layout.proofs.Bridge.{after_more, at_entry, at_free}
use Rattle.layout.proofs.Inserts.{whole}
use Rattle.layout.proofs.Loads.{cell_of, load_none, load_step, start_step, start_mono}
use Rattle.layout.specs.Places.{slot_after, next_of, slot_of}
use Rattle.layout.proofs.Passes.{at_slot, at_gap, at_end, slot_below}
use Rattle.layout.proofs.Ranks.{tally_step, tally_mono, rank_is, last_one}
use Rattle.layout.proofs.Rooms.{select_one_law}
use Rattle.layout.proofs.Splits.{run_all}
use Rattle.blocks.specs.Views.{occupied_bit_in, runend_in, remainder_in}
use Rattle.blocks.specs.Searches.{FoundOccupied, NoOccupied, NthOccupied}
use Rattle.blocks.specs.declared.Quotient.{Quotient}
use Rattle.filter.specs.Meaning.{fingerprints_in, Sound}
use Rattle.filter.specs.Slots.{slot_shown, HomeBlock, InRun}
use Rattle.filter.proofs.Locatings.{count, ends, tally_is, upto_few}

module _ (m end : ℕ → ℕ) (ends : EndsRuns m end) where
  -- a used slot lies in the run of some quotient
  pub owner : (s : ℕ) → 0 < load m s + m s → (x : ℕ) × InRun m x s
  owner s used =
      let c = cell_of m s in
      let x : ℕ = c.0 in
      ⊎_elim (λ (e : start m (suc x) ≡ start m x + m x). (x, record { from = c.2; below = omega (arith, c.3) }))
      (λ e. let z : s ≡ x = omega (arith, c.2, c.3, e.0) in absurd (omega (arith, e.1, ap (λ y. load m y + m y) z)))
      (start_step m x)

  module _ (s x : ℕ) (in_run : InRun m x s) where
    run_end : start m (suc x) ≡ start m x + m x
    run_end = omega (arith, in_run.from, in_run.below, load_step m x)

    owner_busy : busy m x ≡ 1
    owner_busy = cond-true (ltb 0 (m x)) 1 0 (lt-ltb 0 (m x) (omega (arith, in_run.from, in_run.below)))

    -- no run ends between the start of that run and the slot
    owner_rank : tally end s ≡ tally (busy m) x
    owner_rank =
        let last : ℕ = (start m x + m x) - 1 in
        let z : suc last ≡ start m (suc x) = omega (arith, in_run.from, in_run.below, run_end) in
        let one : end last ≡ 1 = last_one m end ends x (omega (arith, in_run.from, in_run.below)) in
        omega (
          arith,
          one,
          owner_busy,
          rank_is m end ends x,
          rank_is m end ends (suc x),
          ap (tally end) z,
          tally_step end last,
          tally_step (busy m) x,
          tally_mono end (start m x) s in_run.from,
          tally_mono end s last (omega (arith, in_run.below)),
        )

    -- the quotient is one of its home block
    owner_home : (a : ℕ) → HomeBlock m s a → (64 * a ≤ x) × (x < 64 * a + 64)
    owner_home a home = (
      ⊎_elim (λ (l : x < 64 * a). absurd (omega (arith, in_run.below, run_end, home.from, start_mono m (suc x) (64 * a) l))) (λ (l : 64 * a ≤ x). l) (cases_lt x (64 * a)),
      ⊎_elim (λ (l : x < 64 * (a + 1)). omega arith) (λ (l : 64 * (a + 1) ≤ x). absurd (omega (arith, in_run.from, home.below, start_mono m (64 * (a + 1)) x l))) (cases_lt x (64 * (a + 1))),
    )

-- the j-th slot of the run of c shows c and its own remainder
shown_in_run : (r : ℕ) (ps : List ℕ) → Sorted ps → (c j : ℕ) → j < many r ps c
    → slot_shown r ps (start (many r ps) c + j) ≡ Some (record { 0 = c }, remainder_at r (laid r 0 ps) (start (many r ps) c + j))
shown_in_run r ps rising c j l =
    at_entry r (λ p later. Some (record { 0 = quotient r p }, remainder r p)) None ps rising c j l
    ∙ ap₂ (λ a b. Some (record { 0 = a }, b)) (All-get_or (λ p. quotient r p ≡ c) (quotient_run r ps c) j 0 l (run_all r ps c)) (sym (at_entry r (λ p later. remainder r p) 0 ps rising c j l))

shown_slot : (r : ℕ) (ps : List ℕ) → Sorted ps → (c s : ℕ) → InRun (many r ps) c s → slot_shown r ps s ≡ Some (record { 0 = c }, remainder_at r (laid r 0 ps) s)
shown_slot r ps rising c s in_run =
    let z : start (many r ps) c + (s - start (many r ps) c) ≡ s = omega (arith, in_run.from) in
    subst (λ t. slot_shown r ps t ≡ Some (record { 0 = c }, remainder_at r (laid r 0 ps) t)) z
    (shown_in_run r ps rising c (s - start (many r ps) c) (omega (arith, in_run.from, in_run.below)))

-- the head of block 0 is above no slot
pub not_first : (m : ℕ → ℕ) (s a : ℕ) → s < start m (64 * a) → 0 < a
not_first m s a l =
    ⊎_elim (λ (z : 0 < a). z) (λ (z : a ≤ 0). let e : 64 * a ≡ 0 = omega arith in absurd (omega (arith, ap (load m) e, load_none m))) (cases_lt 0 a)

module _ (r blocks : ℕ) (ws : List ℕ) (sound : Sound r blocks ws) where
  abbrev m : ℕ → ℕ
  m = count r blocks ws sound

  -- slot s in the run of x, its home block a, and how many runs end from that block's head up to the slot
  module _ (s x a k : ℕ) (in_run : InRun m x s) (home : HomeBlock m s a) (before : k ≡ tally (runend_in r ws) s - tally (runend_in r ws) (start m (64 * a))) where
    place : (64 * a ≤ x) × (x < 64 * a + 64)
    place = owner_home m (runend_in r ws) (ends r blocks ws sound) s x in_run a home

    -- as many occupied quotients of the block lie below x
    nth : tally (occupied_bit_in r ws) (suc x) ≡ tally (occupied_bit_in r ws) (64 * a) + (k + 1)
    nth =
        omega (
          arith,
          before,
          owner_rank m (runend_in r ws) (ends r blocks ws sound) s x in_run,
          owner_busy m (runend_in r ws) (ends r blocks ws sound) s x in_run,
          rank_is m (runend_in r ws) (ends r blocks ws sound) (64 * a),
          tally_is r blocks ws sound (suc x),
          tally_is r blocks ws sound (64 * a),
          tally_step (busy m) x,
          tally_mono (busy m) (64 * a) x place.0,
        )

    pub before_few : k + 1 ≤ 64
    before_few =
        let z : 64 * (x / 64) ≡ 64 * a = omega (arith, place.0, place.1) in
        omega (arith, nth, upto_few r blocks ws sound x, ap (tally (occupied_bit_in r ws)) z)

    -- so the next occupied one is x
    found_owner : (c : ℕ) → FoundOccupied r ws a (k + 1) c → InRun m c s
    found_owner c f =
        let n : ℕ = tally (occupied_bit_in r ws) (suc x) in
        let one : suc c ≡ c + 1 = omega arith in
        let mine : Select (occupied_bit_in r ws) n x =
        record { one = sound.shows.occupied x ∙ owner_busy m (runend_in r ws) (ends r blocks ws sound) s x in_run; nth = refl } in
        let its : Select (occupied_bit_in r ws) n c = record { one = f.one; nth = ap (tally (occupied_bit_in r ws)) one ∙ f.nth ∙ sym nth } in
        subst (λ y. InRun m y s) (select_one_law (occupied_bit_in r ws) n x c mine its) in_run

    not_missed : s < 2 ^ 32 → (NoOccupied r ws a (k + 1) ⊎ (2 ^ 26 ≤ a)) → ⊥
    not_missed fits none =
        ⊎_elim
        (λ n. ⊎_elim (λ (z : k + 1 ≡ 0). omega arith)
        (λ (l : tally (occupied_bit_in r ws) (64 * a + 64) < tally (occupied_bit_in r ws) (64 * a) + (k + 1)).
        omega (arith, nth, tally_mono (occupied_bit_in r ws) (suc x) (64 * a + 64) place.1)) n)
        (λ (l : 2 ^ 26 ≤ a). omega (arith, home.from)) none

    pub found_quotient : s < 2 ^ 32 → (o : Option Quotient) → NthOccupied r ws a (k + 1) o → MatchOption o (load m s + m s ≡ 0) (λ c. InRun m c.0 s)
    found_quotient fits (Some c) f = found_owner c.0 f
    found_quotient fits None f = absurd (not_missed fits f)

  -- ---- what the slot shows

  pub free_shows : (s : ℕ) → load m s + m s ≡ 0 → None ≡ slot_shown r (fingerprints_in r blocks ws) s
  free_shows s z = sym (at_free r _ _ (fingerprints_in r blocks ws) sound.rising s z)

  pub used_shows : (s : ℕ) (c : Quotient) (rem : ℕ) → InRun m c.0 s → rem ≡ remainder_in r ws s → Some (c, rem) ≡ slot_shown r (fingerprints_in r blocks ws) s
  used_shows s c rem in_run is = ap (λ v. Some (c, v)) (is ∙ sound.shows.remainders s) ∙ sym (shown_slot r (fingerprints_in r blocks ws) sound.rising c.0 s in_run)

-- ---- all slots in their order

-- the entries in the slots below s are the first of the fingerprints
pub record ReadUpTo (r : ℕ) (ps items : List ℕ) (s : ℕ) : Type 0 where
  pub i : ℕ
  pub is : items ≡ take i ps
  pub from : next_of r ps i ≤ s
  pub below : i < length ps → s ≤ slot_of r ps i

pub read_none : (r : ℕ) (ps items : List ℕ) → items ≡ [] → ReadUpTo r ps items 0
read_none r ps items e = record { i = 0; is = e; from = omega arith; below = λ l. omega arith }

differ : {X : Type 0} (o : Option X) (v : X) → o ≡ Some v → o ≡ None → ⊥
differ o v p q = let z : ◌≡◌ {A = ℕ} 0 1 = cc in omega arith

same_parts : (c d : Quotient) (a b : ℕ) (o : Option (Quotient × ℕ)) → Some (c, a) ≡ o → o ≡ Some (d, b) → (c.0 ≡ d.0) × (a ≡ b)
same_parts c d a b o p q =
    let e : ◌≡◌ {A = Quotient × ℕ} (c, a) (d, b) = cc in
    (ap (λ v. v.0.0) e, ap (λ v. v.1) e)

module _ (r : ℕ) (ps : List ℕ) where
  -- what is shown in a slot
  abbrev shown : ℕ → List Entry → Option (Quotient × ℕ)
  shown p later = Some (record { 0 = quotient r p }, remainder r p)

  -- slot s is free
  pub read_free : (items : List ℕ) (s : ℕ) → ReadUpTo r ps items s → None ≡ slot_shown r ps s → ReadUpTo r ps items (s + 1)
  read_free items s u e = record {
    i = u.i;
    is = u.is;
    from = omega (arith, u.from);
    below = λ l. ⊎_elim
        (λ (z : s ≡ slot_of r ps u.i). absurd (differ _ _ (at_slot r ps shown None u.i l) (ap (slot_shown r ps) (sym z) ∙ sym e)))
        (λ (z : s ≢ slot_of r ps u.i). omega (arith, u.below l)) (cases_eq s (slot_of r ps u.i));
  }

  -- slot s shows an entry: it is the next one
  pub read_entry : (items more : List ℕ) (s : ℕ) (c : Quotient) (rem v : ℕ) → ReadUpTo r ps items s → Some (c, rem) ≡ slot_shown r ps s
      → v ≡ c.0 * 2 ^ r + rem → more ≡ items ++ v ∷ [] → ReadUpTo r ps more (s + 1)
  read_entry items more s c rem v u e value longer =
      ⊎_elim
      (λ (l : u.i < length ps). ⊎_elim
      (λ (z : s < slot_of r ps u.i). absurd (differ _ _ (sym e) (at_gap r ps shown None u.i s l u.from z)))
      (λ (z : slot_of r ps u.i ≤ s).
      let p : ℕ = get_or ps u.i 0 in
      let here : s ≡ slot_of r ps u.i = omega (arith, u.below l) in
      let parts = same_parts c (record { 0 = quotient r p }) rem (remainder r p) (slot_shown r ps s) e (ap (slot_shown r ps) here ∙ at_slot r ps shown None u.i l) in
      record {
        i = u.i + 1;
        is = longer ∙ ap₂ (λ xs x. xs ++ x ∷ []) u.is (value ∙ ap₂ (λ a b. a * 2 ^ r + b) parts.0 parts.1 ∙ whole r p) ∙ sym (take_more ps u.i 0 l);
        from = omega (arith, after_more r ps u.i l);
        below = λ g. omega (arith, after_more r ps u.i l);
      })
      (cases_lt s (slot_of r ps u.i)))
      (λ (l : length ps ≤ u.i). absurd (differ _ _ (sym e) (at_end r ps shown None s (omega (arith, u.from, ap (slot_after r 0) (take_all u.i ps l))))))
      (cases_lt u.i (length ps))

-- past the last slot, all are read
pub read_whole : (slots r : ℕ) (ps items : List ℕ) → Sorted ps → Roomy slots r ps → ReadUpTo r ps items slots → items ≡ ps
read_whole slots r ps items rising room u =
    ⊎_elim (λ (l : u.i < length ps). absurd (omega (arith, u.below l, slot_below slots r ps rising room u.i l)))
    (λ (l : length ps ≤ u.i). u.is ∙ take_all u.i ps l) (cases_lt u.i (length ps))
