use Rattle.std.proofs.Common.{◌/◌, ◌+◌, arith, rules}
use Rattle.words.proofs.Rows.{Words}
use Rattle.blocks.proofs.Parts.{head_inside, slot_inside}
use Rattle.blocks.proofs.Shifting.{moved_up}
use Rattle.blocks.proofs.moves.shift_up_in_block.Goals as goal

pub returns : goal.returns
returns c =
    let r = c.args.width.bits in
    let from = c.args.from.0 in
    let to = c.args.to.0 in
    let ws = c.args.words.now in
    let us = c.move_bits_up.new.words in
    let vs = c.move_bits_up-2.new.words in
    let hw : Words ws = λ k. search rules in
    let hu : Words us = λ k. search rules in
    let hv : Words vs = λ k. search rules in
    moved_up r ws us vs hw hu hv from to c.requires.order c.requires.block
    (rw (c.runend_place.ensures, c.runend_place-2.ensures) at (c.move_bits_up.ensures.inside (omega (arith, c.runend_place-2.ensures, head_inside r (to / 64) (to / 64 + 1) 1 (omega arith) (omega arith)))))
    (rw (c.place_of.ensures, c.place_of-2.ensures) at (c.move_bits_up-2.ensures.inside (omega (arith, c.place_of-2.ensures, slot_inside r to (to / 64 + 1) (omega arith)))))
