use Rattle.std.proofs.Common.{set, sym, subst, arith, rules}
use Rattle.words.proofs.Rows.{Words}
use Rattle.blocks.specs.Writes.{WroteOffset}
use Rattle.blocks.proofs.Heads.{wrote_offset}
use Rattle.blocks.proofs.writing.set_offset.Goals as goal

pub returns-then-at-words : goal.returns-then-at-words
returns-then-at-words c =
    let r = c.args.width.bits in
    let ws = c.args.words.now in
    let b = c.args.b in
    let v = c.args.v in
    let e = c.word_of-at.ensures in
    let all : Words ws = λ k. search rules in
    record {
      inside = λ l. subst (λ j. WroteOffset r ws (set ws j v) b v) (sym e) (wrote_offset r ws v all (search rules) b l);
      past = λ l. absurd (omega arith);
    }
