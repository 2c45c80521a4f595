use Rattle.std.proofs.Common.{◌-◌, ◌^◌, sym, subst, arith}
use native.Mathlib.Nat.{zero-mod}
use Rattle.blocks.specs.Moves.{BlockWithin}
use Rattle.blocks.specs.Writes.{WroteRemainder}
use Rattle.filter.proofs.Writings.{MarkedBefore, entry_gone, head_within, slot_within, marked_one, marked_none}
use Rattle.filter.proofs.editing.take_entry.Goals as goal
use Rattle.filter.proofs.editing.take_entry.Goals.{then-entry, else-entry}

pub returns-clause-gone : goal.returns-clause-gone
returns-clause-gone c =
    let r = c.args.width.bits in
    let e = c.args.entry in
    let q = e.quotient.0 in
    let p = e.at.0 in
    let u = e.gap.0 in
    let w1 = c.move_down.new.words in
    let w2 = c.set_remainder.new.words in
    let w3 = c.set_runend.new.words in
    let w4 = c.if-entry.words in
    let w5 = c.set_occupied.new.words in
    let h1 : BlockWithin r w1 u = omega arith in
    let h2 : BlockWithin r w2 u = omega arith in
    let h3 : BlockWithin r w3 u = omega arith in
    let h4 : BlockWithin r w4 u = omega arith in
    let h5 : BlockWithin r w5 u = omega arith in
    let mark : MarkedBefore r w3 w4 p e.follows 1 =
    elim c.if-entry.branch [
      | then-entry w ↦ subst (λ x. MarkedBefore r w3 x p e.follows 1) (sym w.words-is)
          (marked_one r w3 w.set_runend-then-entry.new.words p 1 e.follows (e.some w.if-entry.true) w.if-entry.true
          (w.set_runend-then-entry.ensures.inside (head_within r w3 (p - 1) u 1 (omega arith) (omega arith) h3)))
      | else-entry w ↦ subst (λ x. MarkedBefore r w3 x p e.follows 1) (sym w.words-is) (marked_none r w3 p 1 e.follows w.if-entry.false)
    ] in
    entry_gone r c.args.words.now w1 w2 w3 w4 w5 c.lower_offsets.new.words q p u 0 e.follows e.only e.order.1 c.requires.waits
    (c.move_down.ensures.inside e.order.1 c.requires.room)
    (subst (WroteRemainder r w1 w2 u) (zero-mod (2 ^ r)) (c.set_remainder.ensures.inside (slot_within r w1 u u (omega arith) h1)))
    (c.set_runend.ensures.inside (head_within r w2 u u 1 (omega arith) (omega arith) h2))
    mark
    (c.set_occupied.ensures.inside (head_within r w4 q u 0 (omega arith) (omega arith) h4))
    (c.lower_offsets.ensures.inside h5)
