use Rattle.std.proofs.Common.{◌+◌, ◌≤◌, ◌≢◌, ◌⊎◌, sym, ap, ◌∙◌, inl, inr}
use Rattle.blocks.specs.Views.{remainder_in}
use Rattle.filter.proofs.Edited.{absent}
use Rattle.filter.proofs.Sounds.{sound_of}
use Rattle.filter.specs.Layouts.{bits_of, words_in, many_of}
use Rattle.filter.proofs.laid.Layout.in_run.Goals as goal
use Rattle.filter.proofs.laid.Layout.in_run.Goals.{else-at-to-via-then-at-to+else-remainder-rem, else-at-to-via-else-at-to}

pub returns-else-at-to : goal.returns-else-at-to
returns-else-at-to c =
    let l = c.args.self.now in
    let r = bits_of l in
    let ws = words_in l in
    let T = c.run_of.result.to.0 in
    let P = c.seek-at.result.0 in
    let starts = c.run_of.ensures.from in
    let why : (T ≤ P) ⊎ (remainder_in r ws P ≢ c.args.rem) =
    elim c.else-at-to.branch [
      | else-at-to-via-then-at-to+else-remainder-rem w ↦ inr (λ e. w.if-remainder-rem.false (w.remainder.ensures ∙ e))
      | else-at-to-via-else-at-to w ↦ inl w.if-at-to.false
    ] in
    absent _ _ _ (sound_of l) c.args.c.0 c.run_of.result.from.0 T P c.args.rem starts
    (c.run_of.ensures.to ∙ ap (λ x. x + many_of l c.args.c.0) (sym starts)) c.seek-at.ensures.range.0 c.seek-at.ensures.below c.seek-at.ensures.here why
