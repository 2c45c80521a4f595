use Rattle.std.proofs.Common.{◌≡◌, ◌<◌, cond, eqb, ap, ◌∙◌, arith, rules}
use Rattle.std.specs.Int.{bit_at}
use Rattle.words.proofs.Fields.{put_code, bit_put}
use Rattle.words.proofs.put_bit.Goals as goal

pub returns : goal.returns
returns c k =
    let w = c.args.w in
    let i = c.args.i in
    let v = c.from.result in
    let is : v ≡ cond c.args.b 1 0 = search rules in
    let small : v < 2 = grind (arith, rules, is) in
    ap (λ x. bit_at x k) (put_code 64 w i 1 v (omega arith) (omega arith) (omega arith) small) ∙ bit_put w i v k small
    ∙ ap (λ x. cond (eqb k i) x (bit_at w k)) is
