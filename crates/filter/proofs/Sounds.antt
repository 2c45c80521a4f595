-- The words of a layout are sound, and what its calls find there.
use Rattle.std.proofs.Common.{◌≡◌, ℕ, ◌+◌, ◌-◌, ◌*◌, ◌<◌, ltb, sym, ap, ◌∙◌, subst, arith}
use Rattle.std.proofs.lemmas.Bool.{cond-true, lt-ltb}
use Rattle.layout.specs.Rule.{quotient, remainder, laid, layout, occupied_at, runend_at, many}
use Rattle.layout.specs.Load.{start, rank, FirstIdle, Select}
use Rattle.layout.specs.Laws.{copies_of}
use Rattle.layout.proofs.Bridge.{layout_law}
use Rattle.layout.proofs.Ranks.{select_law}
use Rattle.blocks.specs.Views.{remainder_in}
use Rattle.filter.specs.Meaning.{Sound}
use Rattle.filter.specs.Locating.{Placed}
use Rattle.filter.specs.Slots.{InRun}
use Rattle.filter.proofs.Held.{sound_words}
use Rattle.filter.proofs.Edited.{rem_at, none_there, one_there}
use Rattle.filter.proofs.Locatings.{within, load_is, idle_past_run}
use Rattle.filter.specs.declared.laid.Layout.{Layout}
use Rattle.filter.specs.Layouts.{bits_of, words_in, entries, many_of}

pub sound_of : (l : Layout) → Sound (bits_of l) l.count (words_in l)
sound_of l = sound_words (bits_of l) l.count (words_in l) l.blocks.width.some l.few l.laid l.rising l.roomy

-- the last slot of a run is SELECT of the runends for the RANK of its quotient
pub end_selects : (l : Layout) (c e : ℕ) → 0 < many_of l c → e ≡ (start (many_of l) c + many_of l c) - 1
    → (occupied_at (bits_of l) (entries l) c ≡ 1) × Select (runend_at (bits_of l) (layout (bits_of l) (entries l))) (rank (occupied_at (bits_of l) (entries l)) c) e
end_selects l c e some is =
    let r = bits_of l in
    let es = entries l in
    let rows : Select (runend_at r (laid r 0 es)) (rank (occupied_at r es) c) ((start (many r es) c + many r es c) - 1)
    = select_law (many r es) (runend_at r (laid r 0 es)) (layout_law r es (sound_of l).rising).ends c some in (
      cond-true (ltb 0 (many r es c)) 1 0 (lt-ltb 0 _ some),
      subst (λ x. Select (runend_at r (laid r 0 x)) (rank (occupied_at r es) c) e) (sym l.rising) (subst (Select (runend_at r (laid r 0 es)) (rank (occupied_at r es) c)) (sym is) rows),
    )

-- what the search in the run of c for remainder v says of the fingerprint p
pub none_found : (l : Layout) (p c v : ℕ) → c ≡ quotient (bits_of l) p → v ≡ remainder (bits_of l) p
    → ((k : ℕ) → k < many_of l c → remainder_in (bits_of l) (words_in l) (start (many_of l) c + k) ≡ v → ⊥) → copies_of p (entries l) ≡ 0
none_found l p c v ec ev h =
    let r = bits_of l in
    let m = many_of l in
    none_there r l.count (words_in l) (sound_of l) p (subst (λ y. (k : ℕ) → k < m (quotient r p) → remainder_in r (words_in l) (start m (quotient r p) + k) ≡ y → ⊥) ev
    (subst (λ y. (k : ℕ) → k < m y → remainder_in r (words_in l) (start m y + k) ≡ v → ⊥) ec h))

pub one_found : (l : Layout) (p c v d from to s : ℕ) → c ≡ quotient (bits_of l) p → v ≡ remainder (bits_of l) p
    → d ≡ c → from ≡ start (many_of l) c → to ≡ from + many_of l c → InRun (many_of l) c s → remainder_in (bits_of l) (words_in l) s ≡ v
    → Placed (bits_of l) (entries l) p d from to s
one_found l p c v d from to s ec ev ed starts stops in_run same =
    let r = bits_of l in
    let m = many_of l in
    let begins : from ≡ start m (quotient r p) = starts ∙ ap (start m) ec in
    let here = subst (λ y. InRun m y s) ec in_run in
    let lo = here.from in
    let hi = here.below in
    let j : ℕ = s - from in
    let at : start m (quotient r p) + j ≡ s = omega arith in
    record {
      its_quotient = ed ∙ ec;
      starts = begins;
      stops = stops ∙ ap (λ y. from + m y) ec;
      in_run = here;
      found = sym (rem_at r l.count (words_in l) (sound_of l) (quotient r p) j (omega arith)) ∙ ap (remainder_in r (words_in l)) at ∙ same ∙ ev;
    }

-- a place found means that some entry has the fingerprint
pub placed_there : (l : Layout) (p c from to s : ℕ) → Placed (bits_of l) (entries l) p c from to s → 0 < copies_of p (entries l)
placed_there l p c from to s w =
    one_there (bits_of l) l.count (words_in l) (sound_of l) p (s - from) (omega (arith, w.starts, w.in_run.from, w.in_run.below)) w.found

-- the last slot of its run is one of the slots
pub placed_last : (l : Layout) (p c from to s : ℕ) → Placed (bits_of l) (entries l) p c from to s → to - 1 < 64 * l.count
placed_last l p c from to s w =
    let q : ℕ = quotient (bits_of l) p in
    let m = many_of l in
    omega (
      arith,
      w.starts,
      w.stops,
      w.in_run.from,
      w.in_run.below,
      (within (bits_of l) l.count (words_in l) (sound_of l)).last q (omega (arith, w.in_run.from, w.in_run.below)),
      load_is (bits_of l) l.count (words_in l) (sound_of l) q,
    )

-- and the first slot after that at which nothing waits is that after its quotient
pub idle_past_placed : (l : Layout) (p c from to s t : ℕ) → Placed (bits_of l) (entries l) p c from to s → FirstIdle (many_of l) (to - 1) t
    → FirstIdle (many_of l) (quotient (bits_of l) p) t
idle_past_placed l p c from to s t w f =
    let q : ℕ = quotient (bits_of l) p in
    let m = many_of l in
    idle_past_run (bits_of l) l.count (words_in l) (sound_of l) q t (omega (arith, w.in_run.from, w.in_run.below))
    (subst (λ y. FirstIdle m y t) (ap (λ y. y - 1) (w.stops ∙ ap (λ y. y + m q) w.starts)) f)
