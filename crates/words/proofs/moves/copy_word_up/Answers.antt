use Rattle.std.proofs.Common.{◌≡◌, ◌+◌, ◌-◌, ◌*◌, ◌/◌, ◌%◌, ◌^◌, get_or, set, refl, sym, ap, ◌∙◌, ap₂, arith, rules}
use Rattle.words.proofs.Rows.{Words}
use Rattle.words.proofs.Copies.{copied_whole}
use Rattle.words.proofs.moves.copy_word_up.Goals as goal

pub returns : goal.returns
returns c =
    let ws = c.args.words.now in
    let at = c.args.at in
    let r = c.args.by.bits in
    let x = c.across.result in
    let hw : Words ws = λ k. search rules in
    let hv : Words (set ws (at / 64) x) = λ k. search rules in
    let word : (at - r) / 64 ≡ at / 64 - 1 = omega arith in
    let next : at / 64 - 1 + 1 ≡ at / 64 = omega arith in
    let inner : (at - r) % 64 ≡ 64 - r = omega arith in
    copied_whole ws (set ws (at / 64) x) (at - r) at x hw hv (omega arith) (omega arith) refl
    (c.across.ensures ∙ ap (λ k. (get_or ws k 0 * 2 ^ 64 + get_or ws (at / 64 - 1) 0) / 2 ^ (64 - r) % 2 ^ 64) (sym next)
    ∙ sym (ap₂ (λ j i. (get_or ws (j + 1) 0 * 2 ^ 64 + get_or ws j 0) / 2 ^ i % 2 ^ 64) word inner))
