use Rattle.std.proofs.Common.{◌≡◌, ◌+◌, ◌*◌, ◌/◌, ◌%◌, ◌^◌, ◌<◌, ◌≤◌, length, ap, ◌∙◌, mod-lt, arith, pow_pos, rules}
use Rattle.words.specs.Bits.{field}
use Rattle.words.specs.Row.{long_number}
use Rattle.words.proofs.Fields.{with_field, put_code, field_put, field_put_other}
use Rattle.words.proofs.Rows.{Words, with_pair, row_put}
use Rattle.words.proofs.set_field.Goals as goal

pub returns-then-last-words : goal.returns-then-last-words
returns-then-last-words c =
    let ws = c.args.words.now in
    let p = c.args.place in
    let k = c.args.width.bits in
    let u = c.low.result in
    let h : Words ws = λ i. search rules in
    let small : u < 2 ^ k = rw c.low.ensures (mod-lt c.args.v (pow_pos k)) in
    let room : p + k ≤ 64 * length ws = omega arith in
    let row : long_number c.set_pair.new.words ≡ with_field (long_number ws) p k u =
    ap long_number (c.set_pair.ensures ∙ ap (with_pair ws (p / 64))
    (put_code 128 c.pair-both.result (p % 64) k u c.pair-both.type_inv (omega arith) (omega arith) small
    ∙ ap (λ x. with_field x (p % 64) k u) c.pair-both.ensures))
    ∙ row_put ws p k u h (omega arith) small (omega arith) room in
    record {
      written = λ _. ap (λ n. field n p k) row ∙ field_put (long_number ws) p k u small ∙ c.low.ensures;
      others = λ q m o. ap (λ n. field n q m) row ∙ field_put_other (long_number ws) p k u q m small o;
      past = λ l. absurd (omega arith);
    }
