use Rattle.std.proofs.Common.{◌+◌, ◌/◌, arith}
use Rattle.blocks.proofs.Parts.{head_inside, slot_inside}
use Rattle.blocks.proofs.Moving.{entry_copied}
use Rattle.blocks.proofs.moves.copy_entry.Goals as goal

pub returns : goal.returns
returns c =
    let r = c.args.width.bits in
    let i = c.args.i.0 in
    entry_copied r c.args.words.now c.set_remainder.new.words c.set_runend.new.words c.args.j.0 i
    c.remainder-rest.result c.runend-last.result c.remainder-rest.ensures c.runend-last.ensures
    (c.set_remainder.ensures.inside (omega (arith, slot_inside r i (i / 64 + 1) (omega arith))))
    (c.set_runend.ensures.inside (omega (arith, head_inside r (i / 64) (i / 64 + 1) 1 (omega arith) (omega arith))))
