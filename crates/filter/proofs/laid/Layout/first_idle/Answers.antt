use Rattle.std.proofs.Common.{◌≡◌, ℕ, suc, ◌+◌, ◌-◌, ◌*◌, ◌<◌, ◌≤◌, ap, ◌∙◌, ⊎_elim, sym, arith}
use Rattle.std.proofs.lemmas.Bool.{cases_lt}
use Rattle.layout.specs.Load.{load, start, tally}
use Rattle.layout.proofs.Loads.{load_step}
use Rattle.blocks.specs.Views.{occupied_bit_in}
use Rattle.blocks.specs.Searches.{AfterRunends}
use Rattle.filter.proofs.Locatings.{waits_upto, start_bound, idle_at_end, ahead_of_start, ahead_there, start_found}
use Rattle.filter.proofs.Sounds.{sound_of}
use Rattle.filter.specs.declared.laid.Layout.{Layout}
use Rattle.filter.specs.Layouts.{bits_of, words_in, many_of}
use Rattle.filter.proofs.laid.Layout.first_idle.Goals as goal
use Rattle.filter.proofs.laid.Layout.first_idle.Goals.{then-past-x, else-past-x}

-- what is counted lies from the quotient after `past` up to x
counted : (l : Layout) (past x more : ℕ) → x ≡ start (many_of l) (suc past)
    → more ≡ tally (occupied_bit_in (bits_of l) (words_in l)) ((x - 1) + 1) - tally (occupied_bit_in (bits_of l) (words_in l)) (past + 1)
    → more ≡ tally (occupied_bit_in (bits_of l) (words_in l)) x - tally (occupied_bit_in (bits_of l) (words_in l)) (suc past)
counted l past x more starts e =
    let f : ℕ → ℕ = tally (occupied_bit_in (bits_of l) (words_in l)) in
    let a : (x - 1) + 1 ≡ x = omega (arith, starts) in
    let b : past + 1 ≡ suc past = omega arith in
    omega (arith, e, ap f a, ap f b)

-- where the runs of all quotients below x stop, that of x starts
next : (l : Layout) (past x more s : ℕ) → x ≡ start (many_of l) (suc past)
    → more ≡ tally (occupied_bit_in (bits_of l) (words_in l)) ((x - 1) + 1) - tally (occupied_bit_in (bits_of l) (words_in l)) (past + 1)
    → AfterRunends (bits_of l) (words_in l) x more s → s ≡ start (many_of l) x
next l past x more s starts e after =
    start_found _ _ _ (sound_of l) x x more s (ahead_of_start _ _ _ (sound_of l) past x more starts (counted l past x more starts e)) after

pub loop-x-init : goal.loop-x-init
loop-x-init c =
    (omega arith, c.requires.slots, omega (arith, c.requires.stop, c.requires.run, load_step (many_of c.args.self.now) c.args.c.0), λ y lo hi. absurd (omega arith))

pub returns-then-next-x-clause-idle : goal.returns-then-next-x-clause-idle
returns-then-next-x-clause-idle c =
    let l = c.args.self.now in
    let x = c.loop-x.x in
    let is : c.if-past-x.next.0 ≡ start (many_of l) x =
    elim c.if-past-x.branch [
      | then-past-x w ↦ ap (λ s. s.0) w.next-is ∙ w.start_of-next.ensures
      | else-past-x w ↦ ap (λ s. s.0) w.next-is ∙ next l c.loop-x.past x _ _ c.loop-x.invariant.2 w.occupied_after-more.ensures w.after_runends-next.ensures
    ] in
    record { from = omega (arith, c.requires.run, c.requires.stop); idle = omega (arith, is); waits = λ y lo hi. c.loop-x.invariant.3 y (omega arith) hi }

pub after_runends-next-requires : goal.after_runends-next-requires
after_runends-next-requires c =
    let l = c.args.self.now in
    let past = c.loop-x.past in
    let x = c.loop-x.x in
    ahead_there _ _ _ (sound_of l) x x _ (omega (arith, l.few)) (omega (arith, l.few))
    (ahead_of_start _ _ _ (sound_of l) past x _ c.loop-x.invariant.2 (counted l past x _ c.loop-x.invariant.2 c.occupied_after-more.ensures))

pub loop-x-preserved : goal.loop-x-preserved
loop-x-preserved c =
    let l = c.args.self.now in
    let x = c.loop-x.x in
    let is : c.if-past-x.next.0 ≡ start (many_of l) x =
    elim c.if-past-x.branch [
      | then-past-x w ↦ ap (λ s. s.0) w.next-is ∙ w.start_of-next.ensures
      | else-past-x w ↦ ap (λ s. s.0) w.next-is ∙ next l c.loop-x.past x _ _ c.loop-x.invariant.2 w.occupied_after-more.ensures w.after_runends-next.ensures
    ] in
    let again : suc (x - 1) ≡ x = omega (arith, c.loop-x.invariant.2) in (
      omega (arith, is),
      omega (arith, is, start_bound _ _ _ (sound_of l) x),
      is ∙ sym (ap (start (many_of l)) again),
      λ y lo hi. ⊎_elim (λ (lt : y < x). c.loop-x.invariant.3 y lo lt)
          (λ (le : x ≤ y). waits_upto _ _ _ (sound_of l) x y le (omega (arith, is))) (cases_lt y x),
    )

pub returns-clause-idle : goal.returns-clause-idle
returns-clause-idle c =
    let l = c.args.self.now in
    let e : c.loop-x.x ≡ 64 * l.count = omega arith in
    record {
      from = omega (arith, c.requires.run, c.requires.stop);
      idle = ap (load (many_of l)) e ∙ idle_at_end _ _ _ (sound_of l);
      waits = λ x lo hi. c.loop-x.invariant.3 x (omega arith) hi;
    }
