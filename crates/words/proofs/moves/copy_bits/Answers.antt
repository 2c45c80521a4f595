use Rattle.std.proofs.Common.{◌/◌, set, refl, arith, rules}
use Rattle.words.proofs.Rows.{Words}
use Rattle.words.proofs.Copies.{copied_word}
use Rattle.words.proofs.moves.copy_bits.Goals as goal

pub returns : goal.returns
returns c =
    let ws = c.args.words.now in
    let at = c.args.at in
    let x = c.put_bits.result in
    let hw : Words ws = λ k. search rules in
    let hv : Words (set ws (at / 64) x) = λ k. search rules in
    copied_word ws (set ws (at / 64) x) c.args.from at c.args.count c.window-v.result x hw hv (omega arith) (omega arith) refl
    c.window-v.ensures c.put_bits.ensures.written c.put_bits.ensures.others
