use Rattle.std.proofs.Common.{◌≡◌, ◌%◌, ◌^◌, cond, eqb, ap, ◌∙◌, ap₂, mod-eq_of_lt, arith}
use Rattle.layout.specs.Rule.{quotient}
use Rattle.blocks.specs.Moves.{BlockWithin}
use Rattle.blocks.specs.Views.{occupied_bit_in}
use Rattle.filter.proofs.Edited.{remainder_low}
use Rattle.filter.proofs.Writings.{head_within, slot_within}
use Rattle.filter.proofs.laying.lay_entry.Goals as goal

pub returns : goal.returns
returns c =
    let r = c.args.width.bits in
    let s = c.args.s.0 in
    let ws = c.args.words.now in
    let w1 = c.set_occupied.new.words in
    let w2 = c.set_runend.new.words in
    let q = c.quotient_of.result.0 in
    let is : q ≡ quotient r c.args.p = c.quotient_of.ensures in
    let h1 : BlockWithin r w1 s = omega arith in
    let h2 : BlockWithin r w2 s = omega arith in
    let one = c.set_occupied.ensures.inside (head_within r ws q s 0 (omega (arith, c.requires.below)) (omega arith) c.requires.within) in
    let two = c.set_runend.ensures.inside (head_within r w1 s s 1 (omega arith) (omega arith) h1) in
    let three = c.set_remainder.ensures.inside (slot_within r w2 s s (omega arith) h2) in
    let value = ap (λ x. x % 2 ^ r) c.remainder_of.ensures ∙ mod-eq_of_lt (remainder_low r c.args.p) in
    record {
      occupied = λ k. three.occupied k ∙ two.occupied k ∙ one.occupied k ∙ ap (λ x. cond (eqb k x) 1 (occupied_bit_in r ws k)) is;
      runends = λ k. three.runends k ∙ two.runends k ∙ ap (cond (eqb k s) _) (one.runends k);
      offsets = λ k. three.offsets k ∙ two.offsets k ∙ one.offsets k;
      remainders = λ k. three.remainders k ∙ ap₂ (cond (eqb k s)) value (two.remainders k ∙ one.remainders k);
    }
