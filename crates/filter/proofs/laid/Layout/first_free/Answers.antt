use Rattle.std.proofs.Common.{◌≡◌, ◌+◌, ◌<◌, ◌≤◌, ap, ◌∙◌, ⊎_elim, arith}
use Rattle.std.proofs.lemmas.Bool.{cases_lt}
use Rattle.layout.specs.Load.{start}
use Rattle.filter.proofs.Locatings.{used_upto, stop_there, stop_after_stop}
use Rattle.filter.proofs.Sounds.{sound_of}
use Rattle.filter.specs.Layouts.{many_of}
use Rattle.filter.proofs.laid.Layout.first_free.Goals as goal
use Rattle.filter.proofs.laid.Layout.first_free.Goals.{then-past-x, else-past-x}

pub after_runends-next-requires : goal.after_runends-next-requires
after_runends-next-requires c =
    let l = c.args.self.now in
    stop_there _ _ _ (sound_of l) c.loop-x.past c.loop-x.x _ c.loop-x.invariant.1 c.occupied_after-more.ensures (omega (arith, l.few)) (omega (arith, l.few))

pub returns-then-next-x : goal.returns-then-next-x
returns-then-next-x c =
    let l = c.args.self.now in
    let x = c.loop-x.x in
    let stop : c.if-past-x.next.0 ≡ start (many_of l) x + many_of l x =
    elim c.if-past-x.branch [
      | then-past-x w ↦ ap (λ s. s.0) w.next-is ∙ w.stop_of-next.ensures
      | else-past-x w ↦ ap (λ s. s.0) w.next-is ∙ stop_after_stop _ _ _ (sound_of l) c.loop-x.past x _ c.loop-x.invariant.1 w.occupied_after-more.ensures _ w.after_runends-next.ensures
    ] in
    (record { from = omega arith; free = omega (arith, stop); used = c.loop-x.invariant.2 }, omega arith)

pub loop-x-preserved : goal.loop-x-preserved
loop-x-preserved c =
    let l = c.args.self.now in
    let x = c.loop-x.x in
    let stop : c.if-past-x.next.0 ≡ start (many_of l) x + many_of l x =
    elim c.if-past-x.branch [
      | then-past-x w ↦ ap (λ s. s.0) w.next-is ∙ w.stop_of-next.ensures
      | else-past-x w ↦ ap (λ s. s.0) w.next-is ∙ stop_after_stop _ _ _ (sound_of l) c.loop-x.past x _ c.loop-x.invariant.1 w.occupied_after-more.ensures _ w.after_runends-next.ensures
    ] in (
      omega (arith, stop),
      stop,
      λ y lo hi. ⊎_elim (λ (lt : y < x). c.loop-x.invariant.2 y lo lt)
          (λ (le : x ≤ y). used_upto _ _ _ (sound_of l) x y le (omega (arith, stop))) (cases_lt y x),
    )
