use Rattle.std.proofs.Common.{◌%◌, ◌<◌, cond, length, sym, subst, rules}
use Rattle.words.proofs.Rows.{Words}
use Rattle.blocks.specs.Writes.{WithBit, WroteRunend}
use Rattle.blocks.proofs.Heads.{wrote_runend}
use Rattle.blocks.proofs.writing.set_runend.Goals as goal

pub returns-clause-inside : goal.returns-clause-inside
returns-clause-inside c l =
    let r = c.args.width.bits in
    let ws = c.args.words.now in
    let vs = c.set_bit.new.words in
    let i = c.args.s.0 in
    let all : Words ws = λ k. search rules in
    let (w, small, bits, is) = subst (λ j. j < length ws → WithBit ws vs j (i % 64) (cond c.args.b 1 0)) c.word_of.ensures c.set_bit.ensures.inside l in
    subst (λ x. WroteRunend r ws x i (cond c.args.b 1 0)) (sym is) (wrote_runend r ws w all small i (cond c.args.b 1 0) l bits)
