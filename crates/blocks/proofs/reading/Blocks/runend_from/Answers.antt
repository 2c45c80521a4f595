use Rattle.std.proofs.Common.{◌≡◌, ℕ, ◌+◌, ◌-◌, ◌*◌, ◌/◌, ◌%◌, ◌<◌, ◌≤◌, length, get_or, ap, ◌∙◌, inr, ⊎_elim, arith, rules}
use Rattle.words.specs.Bits.{ones_under}
use Rattle.layout.specs.Load.{tally}
use Rattle.layout.proofs.Ranks.{tally_mono}
use Rattle.blocks.specs.Views.{word_index, runend_in}
use Rattle.words.proofs.Ones.{ones_mono}
use Rattle.blocks.proofs.Tallies.{runend_ones, runend_most}
use Rattle.blocks.proofs.Searching.{found}
use Rattle.blocks.proofs.reading.Blocks.runend_from.Goals as goal

pub returns-in_err-w : goal.returns-in_err-w
returns-in_err-w c =
    let r = c.args.self.now.width.bits in
    let ws = c.args.self.now.words.now in
    let from = c.args.from.0 in
    let b = c.loop-block.block in
    let i = c.loop-block.place in
    let a : 64 * (from / 64) + from % 64 ≡ from = omega arith in
    let past : length ws ≤ word_index r b 1 = grind (arith, rules, c.in_err-w.ensures.lookup.0, c.word_of.ensures) in
    rw c.from_residual.ensures (inr (λ x _. omega (arith, c.loop-block.invariant.2, c.loop-block.invariant.3, ap (tally (runend_in r ws)) a, runend_most r ws b (64 * b + i) x past (omega arith))))

pub returns-in_err-i : goal.returns-in_err-i
returns-in_err-i c = ⊎_elim (λ (e : c.loop-block.left ≡ 0). absurd (omega (arith, c.loop-block.invariant.2)))
    (λ (l : ones_under c.ones_from-rest.result 64 < c.loop-block.left). absurd (omega (arith, l, c.rank-here.ensures))) c.in_err-i.ensures

pub returns-then-left-here : goal.returns-then-left-here
returns-then-left-here c =
    let r = c.args.self.now.width.bits in
    let ws = c.args.self.now.words.now in
    let from = c.args.from.0 in
    let w = c.in_ok-w.field-0.now in
    let a : 64 * (from / 64) + from % 64 ≡ from = omega arith in
    let h = found r ws c.loop-block.block c.loop-block.place c.loop-block.left c.in_ok-i.i w c.ones_from-rest.result (search rules) (omega arith) c.ones_from-rest.ensures c.in_ok-i.ensures in
    record {
      from = omega (arith, h.from);
      one = h.one;
      nth = omega (arith, h.nth, c.loop-block.invariant.3, ap (tally (runend_in r ws)) a);
    }

pub loop-block-preserved : goal.loop-block-preserved
loop-block-preserved c =
    let r = c.args.self.now.width.bits in
    let ws = c.args.self.now.words.now in
    let b = c.loop-block.block in
    let i = c.loop-block.place in
    let w = c.in_ok-w.field-0.now in
    let e : w ≡ get_or ws (word_index r b 1) 0 = search rules in
    let next : 64 * (b + 1) + 0 ≡ 64 * b + 64 = omega arith in
    let mono = ones_mono w i 64 (omega arith) in
    let all : c.rank-here.result ≡ ones_under w 64 - ones_under w i = c.rank-here.ensures ∙ c.ones_from-rest.ensures 64 in (
      omega arith,
      omega arith,
      omega arith,
      omega (
        arith,
        all,
        ap (tally (runend_in r ws)) next,
        runend_ones r ws b 64 (omega arith),
        runend_ones r ws b i (omega arith),
        ap (λ x. ones_under x 64) e,
        ap (λ x. ones_under x i) e,
        c.loop-block.invariant.3,
      ),
    )

pub returns : goal.returns
returns c =
    let f : ℕ → ℕ = runend_in c.args.self.now.width.bits c.args.self.now.words.now in
    let from = c.args.from.0 in
    let s = 64 * c.loop-block.block + c.loop-block.place in
    let a : 64 * (from / 64) + from % 64 ≡ from = omega arith in
    inr (λ x l. omega (arith, c.loop-block.invariant.2, c.loop-block.invariant.3, ap (tally f) a, tally_mono f x s (omega arith)))
