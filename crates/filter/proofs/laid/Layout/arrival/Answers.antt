use Rattle.std.proofs.Common.{◌≡◌, ℕ, ◌+◌, ◌*◌, ◌<◌, ◌≤◌, ◌&&◌, eqb, ltb, sym, refl, ap, ◌∙◌, subst, arith, rules}
use Rattle.layout.specs.Rule.{quotient}
use Rattle.layout.specs.Load.{load, start, FirstFree}
use Rattle.filter.specs.Arrivals.{Arrives}
use Rattle.filter.proofs.Edited.{arrives, put_room}
use Rattle.filter.proofs.Locatings.{free_past_run, full_past_run}
use Rattle.filter.proofs.Sounds.{sound_of}
use Rattle.filter.specs.Layouts.{bits_of, many_of, entries}
use Rattle.filter.proofs.laid.Layout.arrival.Goals as goal
use Rattle.filter.proofs.laid.Layout.arrival.Goals.{Joined-from-at}

-- where the search in the run stopped, the entry comes
comes : (c : Joined-from-at) → Arrives (bits_of c.args.self.now) c.args.self.now.count (entries c.args.self.now) c.args.fingerprint
    c.quotient_of-quotient.result.0 c.seek-at.result.0 c.in_ok-free.free.0 c.remainder_of-remainder.result (eqb c.seek-at.result.0 c.run_of.result.to.0) c.if-from-at.result
comes c =
    let l = c.args.self.now in
    let p = c.args.fingerprint in
    let m = many_of l in
    let q : c.quotient_of-quotient.result.0 ≡ quotient (bits_of l) p = c.quotient_of-quotient.ensures in
    let rest = c.remainder_of-remainder.ensures in
    let starts : c.run_of.result.from.0 ≡ start m (quotient (bits_of l) p) = c.run_of.ensures.from ∙ ap (start m) q in
    let stops : c.run_of.result.to.0 ≡ c.run_of.result.from.0 + m (quotient (bits_of l) p) = c.run_of.ensures.to ∙ ap (λ x. start m x + m x) q ∙ ap (λ x. x + m (quotient (bits_of l) p)) (sym starts) in
    let past : start m (quotient (bits_of l) p) + m (quotient (bits_of l) p) ≡ c.run_of.result.to.0 = ap (λ x. start m x + m x) (sym q) ∙ sym c.run_of.ensures.to in
    let follows : c.if-from-at.result ≡ (ltb c.run_of.result.from.0 c.seek-at.result.0 && eqb c.seek-at.result.0 c.run_of.result.to.0) = search rules in
    arrives _ _ _ (sound_of l) p c.run_of.result.from.0 c.run_of.result.to.0 c.seek-at.result.0 starts stops
    c.seek-at.ensures.range.0 c.seek-at.ensures.range.1
    (λ k a b. omega (arith, rest, c.seek-at.ensures.below k a b)) (λ a. omega (arith, rest, c.seek-at.ensures.here a))
    _ _ _ _ _ q rest (free_past_run _ _ _ (sound_of l) (quotient (bits_of l) p) c.in_ok-free.free.0 (subst (λ x. FirstFree m x c.in_ok-free.free.0) (sym past) c.in_ok-free.ensures.0)) c.in_ok-free.ensures.1 refl follows

pub returns-in_err-free : goal.returns-in_err-free
returns-in_err-free c =
    let l = c.args.self.now in
    let m = many_of l in
    let p = c.args.fingerprint in
    let q : c.quotient_of-quotient.result.0 ≡ quotient (bits_of l) p = c.quotient_of-quotient.ensures in
    let past : c.run_of.result.to.0 ≡ start m (quotient (bits_of l) p) + m (quotient (bits_of l) p) = c.run_of.ensures.to ∙ ap (λ x. start m x + m x) q in
    rw c.from_residual.ensures
    (full_past_run _ _ _ (sound_of l) (quotient (bits_of l) p) (subst (λ y. (x : ℕ) → y ≤ x → x < 64 * l.count → 0 < load m x + m x) past c.in_err-free.ensures))

pub invariant_of-result : goal.invariant_of-result
invariant_of-result c =
    let l = c.args.self.now in
    let a = comes c in
    record { order = put_room _ _ _ (sound_of l) c.args.fingerprint _ _ _ _ _ _ a; some = λ e. search rules }

pub returns : goal.returns
returns c = comes c.before
