-- Runs in words that hold a layout: where they start and stop, by the runends from their quotients on.
use Rattle.std.proofs.Common.{◌≡◌, ℕ, suc, ◌+◌, ◌-◌, ◌*◌, ◌/◌, ◌%◌, ◌^◌, ◌<◌, ◌≤◌, max, Bool, true, false, eqb, ltb, List, sym, refl, ap, ◌∙◌, subst, ⊎_elim, zero-add, add-zero, arith}
use mathlib.Core.Path.{fun_ext}
use mir.Val.{bool_byte}
use Rattle.std.proofs.lemmas.Bool.{cases_lt}
use Rattle.layout.specs.Rule.{one_if, many, laid, offset_at}
use Rattle.layout.specs.Load.{load, start, busy, tally, FirstFree, FirstIdle, EndsRuns}
use Rattle.layout.specs.Laws.{WithinSlots}
use Rattle.layout.proofs.Bounds.{within_law}
use Rattle.layout.proofs.Bridge.{layout_law, offset_law}
use Rattle.layout.proofs.Heads.{start_here, start_after, stop_after}
use Rattle.layout.proofs.Loads.{load_step, start_mono, jump_law}
use Rattle.layout.proofs.Moves.{bit_pos, bit_zero}
use Rattle.layout.proofs.Ranks.{tally_step, tally_mono, rank_is}
use Rattle.blocks.specs.Views.{occupied_bit_in, runend_in, head_in}
use Rattle.blocks.specs.Searches.{AfterRunends, FoundNext, open_at}
use Rattle.blocks.proofs.Tallies.{occupied_few}
use Rattle.filter.specs.Meaning.{fingerprints_in, Sound}
use Rattle.filter.specs.Locating.{RunsAhead}

module _ (r blocks : ℕ) (ws : List ℕ) (sound : Sound r blocks ws) where
  -- how many entries each quotient has
  abbrev pub count : ℕ → ℕ
  count = many r (fingerprints_in r blocks ws)

  pub within : WithinSlots (64 * blocks) r (fingerprints_in r blocks ws)
  within = within_law (64 * blocks) r (fingerprints_in r blocks ws) sound.rising sound.roomy

  pub ends : EndsRuns count (runend_in r ws)
  ends x s lo hi = sound.shows.runends s ∙ (layout_law r (fingerprints_in r blocks ws) sound.rising).ends x s lo hi

  occupied_is : occupied_bit_in r ws ≡ busy count
  occupied_is = fun_ext sound.shows.occupied

  pub tally_is : (n : ℕ) → tally (occupied_bit_in r ws) n ≡ tally (busy count) n
  tally_is n = ap (λ f. tally f n) occupied_is

  pub load_is : (x : ℕ) → load count x ≡ offset_at r (laid r 0 (fingerprints_in r blocks ws)) x
  load_is x = sym (offset_law r (fingerprints_in r blocks ws) sound.rising x)

  pub head_is : (b : ℕ) → head_in r ws b ≡ start count (64 * b)
  head_is b = ap (λ n. 64 * b + n) (sound.shows.offsets b ∙ sym (load_is (64 * b)))

  -- no run starts past the slots, but where its quotient is
  pub start_bound : (x : ℕ) → start count x ≤ max (64 * blocks) x
  start_bound x = ⊎_elim (λ (l : x < 64 * blocks). omega (arith, load_is x, within.offset x (omega arith))) (λ (l : 64 * blocks ≤ x). omega (arith, load_is x, within.past x l)) (cases_lt x (64 * blocks))

  -- a runend lies below the slots
  pub end_bound : (e : ℕ) → runend_in r ws e ≡ 1 → e < 64 * blocks
  end_bound e one = ⊎_elim (λ (l : e < 64 * blocks). l) (λ (l : 64 * blocks ≤ e). absurd (omega (arith, one, sound.shows.runends e, within.end e l))) (cases_lt e (64 * blocks))

  flag_is : (b : Bool) → bool_byte (eqb (one_if b) 1) ≡ one_if b
  flag_is true = refl
  flag_is false = refl

  -- few of them are occupied quotients of one block
  pub upto_few : (c : ℕ) → tally (occupied_bit_in r ws) (suc c) - tally (occupied_bit_in r ws) (64 * (c / 64)) ≤ 64
  upto_few c =
      let z : 64 * (c / 64) + (c % 64 + 1) ≡ suc c = omega arith in
      omega (arith, occupied_few r ws (64 * (c / 64)) (c % 64 + 1), ap (tally (occupied_bit_in r ws)) z)

  pub below_few : (c : ℕ) → tally (occupied_bit_in r ws) c - tally (occupied_bit_in r ws) (64 * (c / 64)) ≤ 64
  below_few c = omega (arith, upto_few c, tally_mono (occupied_bit_in r ws) c (suc c) (omega arith))

  -- what lies ahead of the run of c, from c on or from the head of its block: k occupied quotients below it in the block, of whose runs n end below it
  module _ (c k n x : ℕ) (below : k ≡ tally (occupied_bit_in r ws) c - tally (occupied_bit_in r ws) (64 * (c / 64)))
      (ended : n ≡ tally (runend_in r ws) c - tally (runend_in r ws) (head_in r ws (c / 64))) (here : x ≡ max c (head_in r ws (c / 64))) where
    up : x ≤ start count c
    up = omega (arith, here, head_is (c / 64), start_mono count (64 * (c / 64)) c (omega arith))

    -- no fewer than n
    parts : n + tally (runend_in r ws) (start count c) ≡ tally (runend_in r ws) x + k
    parts =
        let h : ℕ = head_in r ws (c / 64) in
        let mono = tally_mono (busy count) (64 * (c / 64)) c (omega arith) in
        let mine = rank_is count (runend_in r ws) ends c in
        let heads = rank_is count (runend_in r ws) ends (64 * (c / 64)) in
        let at = ap (tally (runend_in r ws)) (head_is (c / 64)) in
        ⊎_elim
        (λ (l : c < h). let z : x ≡ h = omega (arith, here) in omega (arith, below, ended, mono, mine, heads, at, tally_is c, tally_is (64 * (c / 64)), tally_mono (runend_in r ws) c h (omega arith), ap (tally (runend_in r ws)) z))
        (λ (l : h ≤ c). let z : x ≡ c = omega (arith, here) in omega (arith, below, ended, mono, mine, heads, at, tally_is c, tally_is (64 * (c / 64)), tally_mono (runend_in r ws) h c l, ap (tally (runend_in r ws)) z))
        (cases_lt c h)

    pub ahead_enough : n ≤ k
    ahead_enough = omega (arith, parts, tally_mono (runend_in r ws) x (start count c) up)

    pub ahead_found : (v : ℕ) → v ≡ k - n → RunsAhead count (runend_in r ws) c x v
    ahead_found v e = record { from = omega (arith, here); upto = up; runs = omega (arith, parts, ahead_enough, e) }

  -- the run starts after those ahead of it
  pub start_found : (c x k s : ℕ) → RunsAhead count (runend_in r ws) c x k → AfterRunends r ws x k s → s ≡ start count c
  start_found c x k s ahead after =
      ⊎_elim
      (λ (l : 0 < k).
      let w = after.some l in
      let one : suc w.0 ≡ w.0 + 1 = omega arith in
      w.2 ∙ start_after count (runend_in r ws) ends c x ahead.from ahead.upto w.0 (omega (arith, ahead.runs)) w.1.one
      (ap (tally (runend_in r ws)) one ∙ w.1.nth ∙ ahead.runs))
      (λ (l : k ≤ 0). after.none (omega arith) ∙ start_here count (runend_in r ws) ends c x ahead.from ahead.upto (omega (arith, ahead.runs)))
      (cases_lt 0 k)

  own_is : (c f : ℕ) → f ≡ bool_byte (eqb (occupied_bit_in r ws c) 1) → f ≡ busy count c
  own_is c f e = e ∙ ap (λ x. bool_byte (eqb x 1)) (sound.shows.occupied c) ∙ flag_is (ltb 0 (count c))

  -- and stops after its own runend, if it has one
  pub stop_found : (c x k f s : ℕ) → RunsAhead count (runend_in r ws) c x k → f ≡ bool_byte (eqb (occupied_bit_in r ws c) 1) → AfterRunends r ws x (k + f) s
      → s ≡ start count c + count c
  stop_found c x k f s ahead own after =
      ⊎_elim
      (λ (l : 0 < count c).
      let some : f ≡ 1 = own_is c f own ∙ bit_pos (count c) l in
      let w = after.some (omega arith) in
      let one : suc w.0 ≡ w.0 + 1 = omega arith in
      w.2 ∙ stop_after count (runend_in r ws) ends c w.0 l w.1.one (ap (tally (runend_in r ws)) one ∙ omega (arith, w.1.nth, ahead.runs, some)))
      (λ (l : count c ≤ 0).
      let none : f ≡ 0 = own_is c f own ∙ bit_zero (count c) (omega arith) in
      let same : k + f ≡ k = omega arith in
      omega (arith, start_found c x k s ahead (subst (λ y. AfterRunends r ws x y s) same after)))
      (cases_lt 0 (count c))

  -- the run after those that go on at c is that of c, or would be
  module _ (c x e : ℕ) (next : FoundNext r ws c x e) where
    ahead_open : RunsAhead count (runend_in r ws) c c (open_at r ws c)
    ahead_open = ahead_found c _ _ c refl refl (omega (arith, next.begun)) _ refl

    pub next_start : x ≡ start count c
    next_start = start_found c c (open_at r ws c) x ahead_open next.start

    pub next_stop : 1 ≡ bool_byte (eqb (occupied_bit_in r ws c) 1) → suc e ≡ start count c + count c
    next_stop own = stop_found c c (open_at r ws c) 1 (suc e) ahead_open own (record { none = λ z. absurd (omega arith); some = λ l. (e, next.end, refl) })

    pub next_empty : 0 ≡ bool_byte (eqb (occupied_bit_in r ws c) 1) → x ≡ start count c + count c
    next_empty own = stop_found c c (open_at r ws c) 0 x ahead_open own (subst (λ y. AfterRunends r ws c y x) (sym (add-zero (open_at r ws c))) next.start)

  -- from the start of a run on, nothing lies ahead of it
  pub none_ahead : (c x : ℕ) → x ≡ start count c → RunsAhead count (runend_in r ws) c x 0
  none_ahead c x e = record { from = omega arith; upto = omega arith; runs = omega (arith, ap (tally (runend_in r ws)) e) }

  pub stop_next : (c x f s : ℕ) → x ≡ start count c → f ≡ bool_byte (eqb (occupied_bit_in r ws c) 1) → AfterRunends r ws x f s → s ≡ start count c + count c
  stop_next c x f s e own after = stop_found c x 0 f s (none_ahead c x e) own (subst (λ y. AfterRunends r ws x y s) (sym (zero-add f)) after)

  -- below the slot at which the run of c stops as many runs end as there are occupied quotients up to c
  pub stops_counted : (c : ℕ) → tally (runend_in r ws) (start count c + count c) ≡ tally (busy count) (suc c)
  stops_counted c =
      ⊎_elim
      (λ (l : 0 < count c).
      let z : start count (suc c) ≡ start count c + count c = omega (arith, load_step count c) in
      omega (arith, ap (tally (runend_in r ws)) z, rank_is count (runend_in r ws) ends (suc c)))
      (λ (l : count c ≤ 0).
      let z : start count c + count c ≡ start count c = omega arith in
      omega (arith, ap (tally (runend_in r ws)) z, rank_is count (runend_in r ws) ends c, tally_step (busy count) c, bit_zero (count c) (omega arith)))
      (cases_lt 0 (count c))

  -- the runends that are looked for are there
  module _ (c x k : ℕ) (few : 64 * blocks ≤ 2 ^ 32) (fits : c < 2 ^ 32) (ahead : RunsAhead count (runend_in r ws) c x k) where
    pub own_there : (f : ℕ) → f ≡ bool_byte (eqb (occupied_bit_in r ws c) 1) → tally (runend_in r ws) x + (k + f) ≤ tally (runend_in r ws) (2 ^ 32)
    own_there f own =
        omega (
          arith,
          ahead.runs,
          own_is c f own,
          rank_is count (runend_in r ws) ends c,
          rank_is count (runend_in r ws) ends (suc c),
          tally_step (busy count) c,
          tally_mono (runend_in r ws) (start count (suc c)) (2 ^ 32) (omega (arith, start_bound (suc c))),
        )

    pub ahead_there : tally (runend_in r ws) x + k ≤ tally (runend_in r ws) (2 ^ 32)
    ahead_there =
        omega (arith, ahead.runs, tally_mono (runend_in r ws) (start count c) (2 ^ 32) (omega (arith, start_bound c)))

  -- x is where the run of an earlier quotient stops: where that of x stops, by the occupied quotients in between
  module _ (past x more : ℕ) (stopped : x ≡ start count past + count past)
      (counted : more ≡ tally (occupied_bit_in r ws) (x + 1) - tally (occupied_bit_in r ws) (past + 1)) where
    ahead_of_stop : past < x → (k : ℕ) → k ≡ tally (busy count) x - tally (busy count) (suc past) → RunsAhead count (runend_in r ws) x x k
    ahead_of_stop l k e = record {
      from = omega arith;
      upto = omega arith;
      runs = omega (
        arith,
        e,
        ap (tally (runend_in r ws)) stopped,
        stops_counted past,
        rank_is count (runend_in r ws) ends x,
        tally_mono (busy count) (suc past) x (omega arith),
      );
    }

    more_is : past < x → more ≡ (tally (busy count) x - tally (busy count) (suc past)) + bool_byte (eqb (occupied_bit_in r ws x) 1)
    more_is l =
        let a : x + 1 ≡ suc x = omega arith in
        let b : past + 1 ≡ suc past = omega arith in
        omega (
          arith,
          counted,
          ap (tally (occupied_bit_in r ws)) a,
          ap (tally (occupied_bit_in r ws)) b,
          tally_is (suc x),
          tally_is (suc past),
          tally_step (busy count) x,
          own_is x (bool_byte (eqb (occupied_bit_in r ws x) 1)) refl,
          tally_mono (busy count) (suc past) x (omega arith),
        )

    none_more : x ≤ past → more ≡ 0
    none_more l = omega (arith, counted, tally_mono (occupied_bit_in r ws) (x + 1) (past + 1) (omega arith))

    pub stop_there : 64 * blocks ≤ 2 ^ 32 → x < 2 ^ 32 → tally (runend_in r ws) x + more ≤ tally (runend_in r ws) (2 ^ 32)
    stop_there few fits =
        ⊎_elim
        (λ (l : past < x). omega (arith, more_is l, own_there x x _ few fits (ahead_of_stop l _ refl) _ refl))
        (λ (l : x ≤ past). omega (arith, none_more l, tally_mono (runend_in r ws) x (2 ^ 32) (omega arith)))
        (cases_lt past x)

    pub stop_after_stop : (s : ℕ) → AfterRunends r ws x more s → s ≡ start count x + count x
    stop_after_stop s after =
        ⊎_elim
        (λ (l : past < x). stop_found x x _ _ s (ahead_of_stop l _ refl) refl (subst (λ y. AfterRunends r ws x y s) (more_is l) after))
        (λ (l : x ≤ past). let z : past ≡ x = omega arith in after.none (none_more l) ∙ stopped ∙ ap (λ y. start count y + count y) z)
        (cases_lt past x)

  -- x is where the run of the quotient after `past` starts: where that of x starts, by the occupied quotients in between
  module _ (past x more : ℕ) (starts : x ≡ start count (suc past))
      (counted : more ≡ tally (occupied_bit_in r ws) x - tally (occupied_bit_in r ws) (suc past)) where
    pub ahead_of_start : RunsAhead count (runend_in r ws) x x more
    ahead_of_start = record {
      from = omega arith;
      upto = omega arith;
      runs = omega (
        arith,
        counted,
        ap (tally (runend_in r ws)) starts,
        tally_is x,
        tally_is (suc past),
        rank_is count (runend_in r ws) ends (suc past),
        rank_is count (runend_in r ws) ends x,
        tally_mono (busy count) (suc past) x (omega arith),
      );
    }

  -- a slot from which no run is left over is free, and all up to the end of the runs are used
  pub used_upto : (x y : ℕ) → x ≤ y → y < start count x + count x → 0 < load count y + count y
  used_upto x y l g = (jump_law count x y l).0 g

  pub waits_upto : (x y : ℕ) → x ≤ y → y < start count x → 0 < load count y
  waits_upto x y l g = (jump_law count x y l).1 g

  -- past the run of c the first free slot is that from c on, and the first slot at which nothing waits is that after c
  pub free_past_run : (c u : ℕ) → FirstFree count (start count c + count c) u → FirstFree count c u
  free_past_run c u f = record {
    from = omega (arith, f.from);
    free = f.free;
    used = λ x lo hi. ⊎_elim (λ (l : x < start count c + count c). used_upto c x lo l) (λ (l : start count c + count c ≤ x). f.used x l hi) (cases_lt x (start count c + count c));
  }

  pub full_past_run : (c : ℕ) → ((x : ℕ) → start count c + count c ≤ x → x < 64 * blocks → 0 < load count x + count x)
      → (x : ℕ) → c ≤ x → x < 64 * blocks → 0 < load count x + count x
  full_past_run c f x lo hi = ⊎_elim (λ (l : x < start count c + count c). used_upto c x lo l) (λ (l : start count c + count c ≤ x). f x l hi) (cases_lt x (start count c + count c))

  pub idle_past_run : (c t : ℕ) → 0 < count c → FirstIdle count ((start count c + count c) - 1) t → FirstIdle count c t
  idle_past_run c t pos f = record {
    from = omega (arith, f.from);
    idle = f.idle;
    waits = λ x lo hi. ⊎_elim (λ (l : x < start count c + count c). waits_upto (suc c) x lo (omega (arith, load_step count c)))
        (λ (l : start count c + count c ≤ x). f.waits x (omega arith) hi) (cases_lt x (start count c + count c));
  }

  pub idle_at_end : load count (64 * blocks) ≡ 0
  idle_at_end = load_is (64 * blocks) ∙ within.past (64 * blocks) (omega arith)
