use Rattle.std.proofs.Common.{◌%◌, ◌<◌, cond, length, sym, subst, rules}
use Rattle.words.proofs.Rows.{Words}
use Rattle.blocks.specs.Writes.{WithBit, WroteOccupied}
use Rattle.blocks.proofs.Heads.{wrote_occupied}
use Rattle.blocks.proofs.writing.set_occupied.Goals as goal

pub returns-clause-inside : goal.returns-clause-inside
returns-clause-inside c l =
    let r = c.args.width.bits in
    let ws = c.args.words.now in
    let vs = c.set_bit.new.words in
    let i = c.args.c.0 in
    let all : Words ws = λ k. search rules in
    let (w, small, bits, is) = subst (λ j. j < length ws → WithBit ws vs j (i % 64) (cond c.args.b 1 0)) c.word_of.ensures c.set_bit.ensures.inside l in
    subst (λ x. WroteOccupied r ws x i (cond c.args.b 1 0)) (sym is) (wrote_occupied r ws w all small i (cond c.args.b 1 0) l bits)
