use Rattle.std.proofs.Common.{◌+◌, ◌%◌, ◌^◌, ◌<◌, mod-lt, pow_pos, ap, ◌∙◌, arith}
use Rattle.std.specs.Int.{bit_at}
use Rattle.words.proofs.Fields.{put_low, bit_put_in, bit_put_out, field_low}
use Rattle.words.proofs.moves.put_bits.Goals as goal

pub returns-clause-written : goal.returns-clause-written
returns-clause-written c i l =
    let w = c.args.w in
    let p = c.args.at in
    let k = c.args.count in
    let v = c.args.v in
    let small : v % 2 ^ k < 2 ^ k = mod-lt v (pow_pos k) in
    ap (λ x. bit_at x (p + i)) (put_low 64 w p k v (omega arith) (omega arith)) ∙ bit_put_in w p k (v % 2 ^ k) i small l ∙ field_low v i 1 k (omega arith)

pub returns-clause-others : goal.returns-clause-others
returns-clause-others c i o =
    let w = c.args.w in
    let p = c.args.at in
    let k = c.args.count in
    let v = c.args.v in
    let small : v % 2 ^ k < 2 ^ k = mod-lt v (pow_pos k) in
    ap (λ x. bit_at x i) (put_low 64 w p k v (omega arith) (omega arith)) ∙ bit_put_out w p k (v % 2 ^ k) i small o
