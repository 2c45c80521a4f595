use Rattle.std.proofs.Common.{◌-◌, mod-eq_of_lt, sym, subst, arith}
use Rattle.blocks.specs.Moves.{BlockWithin}
use Rattle.blocks.specs.Writes.{WroteRemainder}
use Rattle.filter.proofs.Writings.{MarkedBefore, entry_put, head_within, slot_within, marked_one, marked_none}
use Rattle.filter.proofs.editing.put_entry.Goals as goal
use Rattle.filter.proofs.editing.put_entry.Goals.{then-entry, else-entry}

pub returns-clause-put : goal.returns-clause-put
returns-clause-put c =
    let r = c.args.width.bits in
    let e = c.args.entry in
    let q = e.quotient.0 in
    let p = e.at.0 in
    let u = e.free.0 in
    let w1 = c.move_up.new.words in
    let w2 = c.set_remainder.new.words in
    let w3 = c.set_runend.new.words in
    let w4 = c.if-entry.words in
    let w5 = c.set_occupied.new.words in
    let h1 : BlockWithin r w1 u = omega arith in
    let h2 : BlockWithin r w2 u = omega arith in
    let h3 : BlockWithin r w3 u = omega arith in
    let h4 : BlockWithin r w4 u = omega arith in
    let h5 : BlockWithin r w5 u = omega arith in
    let mark : MarkedBefore r w3 w4 p e.follows 0 =
    elim c.if-entry.branch [
      | then-entry w ↦ subst (λ x. MarkedBefore r w3 x p e.follows 0) (sym w.words-is)
          (marked_one r w3 w.set_runend-then-entry.new.words p 0 e.follows (e.some w.if-entry.true) w.if-entry.true
          (w.set_runend-then-entry.ensures.inside (head_within r w3 (p - 1) u 1 (omega arith) (omega arith) h3)))
      | else-entry w ↦ subst (λ x. MarkedBefore r w3 x p e.follows 0) (sym w.words-is) (marked_none r w3 p 0 e.follows w.if-entry.false)
    ] in
    entry_put r c.args.words.now w1 w2 w3 w4 w5 c.raise_offsets.new.words q p u e.remainder e.ends e.follows e.order.1 c.requires.few
    (c.move_up.ensures.inside e.order.1 c.requires.room)
    (subst (WroteRemainder r w1 w2 p) (mod-eq_of_lt c.requires.small) (c.set_remainder.ensures.inside (slot_within r w1 p u e.order.1 h1)))
    (c.set_runend.ensures.inside (head_within r w2 p u 1 e.order.1 (omega arith) h2))
    mark
    (c.set_occupied.ensures.inside (head_within r w4 q u 0 (omega arith) (omega arith) h4))
    (c.raise_offsets.ensures.inside h5)
