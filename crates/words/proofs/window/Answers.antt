use Rattle.std.proofs.Common.{◌/◌, ◌%◌, ◌^◌, sym, ap, ◌∙◌, rules}
use Rattle.words.proofs.Fields.{low_low}
use Rattle.words.proofs.Rows.{Words, field_pair}
use Rattle.words.proofs.window.Goals as goal

pub returns : goal.returns
returns c k l =
    let ws = c.args.words.now in
    let p = c.args.place in
    let h : Words ws = λ i. search rules in
    ap (λ x. x / 2 ^ (p % 64) % 2 ^ 64 % 2 ^ k) c.pair.ensures ∙ low_low _ 64 k l ∙ sym (field_pair ws p k h l)
