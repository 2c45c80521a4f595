use Rattle.std.proofs.Common.{◌≡◌, ℕ, ◌+◌, ◌-◌, sym, ap, ◌∙◌, inr, arith}
use Rattle.std.proofs.lemmas.Bool.{eqb-false}
use Rattle.layout.specs.Load.{start}
use Rattle.filter.proofs.Edited.{absent}
use Rattle.filter.proofs.Sounds.{sound_of}
use Rattle.filter.specs.Layouts.{many_of, remainders_of}
use Rattle.filter.proofs.laid.Layout.run_has.Goals as goal

-- the remainders rise, so none past the first that is no less is the one
pub returns-then-first-to-clause-not : goal.returns-then-first-to-clause-not
returns-then-first-to-clause-not c =
    let l = c.args.self.now in
    let begin : ℕ = start (many_of l) c.args.c.0 in
    let starts = c.run_of.ensures.from in
    λ e s in_run same.
    let at : begin + (s - begin) ≡ s = omega (arith, in_run.from) in
    absent _ _ _ (sound_of l) c.args.c.0 c.run_of.result.from.0 c.run_of.result.to.0 c.seek-first.result.0 c.args.rem starts
    (c.run_of.ensures.to ∙ ap (λ x. x + many_of l c.args.c.0) (sym starts)) c.seek-first.ensures.range.0 c.seek-first.ensures.below c.seek-first.ensures.here
    (inr (λ z. eqb-false _ _ e (c.remainder.ensures ∙ z))) (s - begin) (omega (arith, in_run.from, in_run.below)) (ap (remainders_of l) at ∙ same)
