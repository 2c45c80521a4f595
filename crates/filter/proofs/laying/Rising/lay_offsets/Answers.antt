use Rattle.std.proofs.Common.{◌≡◌, ℕ, suc, ◌+◌, ◌*◌, ◌<◌, ◌≤◌, cond, ltb, get_or, ap, ◌∙◌, ⊎_elim, arith}
use Rattle.std.proofs.lemmas.Bool.{cases_lt}
use Rattle.layout.specs.Rule.{quotient, laid, offset_at}
use Rattle.layout.proofs.Bounds.{within_law}
use Rattle.layout.proofs.Passes.{advance, advanced, offset_cut}
use Rattle.blocks.specs.Views.{offset_in}
use Rattle.blocks.proofs.Parts.{head_inside}
use Rattle.filter.proofs.Held.{sorted_is}
use Rattle.filter.proofs.laying.Rising.lay_offsets.Goals as goal

pub loop-b-preserved : goal.loop-b-preserved
loop-b-preserved c =
    let r = c.args.self.now.width.bits in
    let ps = c.args.self.now.list.now in
    let b = c.loop-b.b in
    let inv = c.loop-b.invariant in
    let i = c.skip_below.result.0 in
    let skip = c.skip_below.ensures in
    let low : (k : ℕ) → k < i → quotient r (get_or ps k 0) < 64 * b =
    λ k l. ⊎_elim (λ (g : k < c.loop-b.i). inv.2 k g) (λ (g : c.loop-b.i ≤ k). skip.low k g l) (cases_lt k c.loop-b.i) in
    let wrote = c.set_offset.ensures.inside (omega (arith, head_inside r b c.args.self.now.blocks 2 c.loop-b-test.true (omega arith))) in
    let full : ℕ → ℕ = λ k. offset_at r (laid r 0 ps) (64 * k) in
    let here : full b ≡ c.saturating_sub.result = omega (arith, offset_cut r ps (sorted_is c.args.self.now.list.now c.args.self.now.order) i (64 * b) skip.range.1 low skip.high, skip.slot) in
    let one : suc b ≡ b + 1 = omega arith in (
      skip.range.1,
      skip.slot,
      (λ k l. omega (arith, low k l)),
      (λ k. wrote.occupied k ∙ inv.3 k),
      (λ k. wrote.runends k ∙ inv.4 k),
      (λ k. advance full (offset_in r c.loop-b.words) (offset_in r c.set_offset.new.words) b b c.saturating_sub.result (omega arith) here
          (λ j lo hi. absurd (omega arith)) inv.5 wrote.offsets k
          ∙ ap (λ m. cond (ltb k m) (full k) 0) one),
      (λ k. wrote.remainders k ∙ inv.6 k),
    )

pub returns : goal.returns
returns c =
    let r = c.args.self.now.width.bits in
    let ps = c.args.self.now.list.now in
    let inv = c.loop-b.invariant in
    let within = within_law (64 * c.args.self.now.blocks) r ps (sorted_is c.args.self.now.list.now c.args.self.now.order) c.args.self.now.room in
    record {
      occupied = inv.3;
      runends = inv.4;
      offsets = advanced (λ k. offset_at r (laid r 0 ps) (64 * k)) _ c.loop-b.b (λ k l. within.past (64 * k) (omega arith)) inv.5;
      remainders = inv.6;
    }
