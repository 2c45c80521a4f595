use Rattle.std.proofs.Common.{◌+◌, ◌-◌, ◌<◌, ap, ◌∙◌, arith}
use Rattle.layout.specs.Load.{load, tally}
use Rattle.blocks.specs.Views.{runend_in}
use Rattle.filter.proofs.Locatings.{ends}
use Rattle.filter.proofs.Slotting.{owner, before_few, found_quotient}
use Rattle.filter.proofs.Sounds.{sound_of}
use Rattle.filter.specs.Layouts.{bits_of, words_in, many_of}
use Rattle.filter.proofs.laid.Layout.quotient_at.Goals as goal

pub overflow_add-before : goal.overflow_add-before
overflow_add-before c =
    let l = c.args.self.now in
    let r = bits_of l in
    let ws = words_in l in
    let s = c.args.s.0 in
    let m = many_of l in
    let used : 0 < load m s + m s = omega arith in
    let w = owner m (runend_in r ws) (ends _ _ _ (sound_of l)) s used in
    omega (
      arith,
      before_few _ _ _ (sound_of l) s w.0 c.home_block-a.result c.runends_between-before.result w.1 c.home_block-a.ensures
          (c.runends_between-before.ensures ∙ ap (λ h. tally (runend_in r ws) s - tally (runend_in r ws) h) c.head_of-head.ensures),
    )

pub returns : goal.returns
returns c =
    let l = c.args.self.now in
    let r = bits_of l in
    let ws = words_in l in
    let s = c.args.s.0 in
    let m = many_of l in
    let used : 0 < load m s + m s = omega arith in
    let w = owner m (runend_in r ws) (ends _ _ _ (sound_of l)) s used in
    found_quotient _ _ _ (sound_of l) s w.0 c.home_block-a.result c.runends_between-before.result w.1 c.home_block-a.ensures
    (c.runends_between-before.ensures ∙ ap (λ h. tally (runend_in r ws) s - tally (runend_in r ws) h) c.head_of-head.ensures)
    (omega arith) c.nth_occupied.result c.nth_occupied.ensures
