use Rattle.std.proofs.Common.{◌≡◌, ℕ, ◌≤◌, ◌+◌, [], ◌∷◌, ◌++◌, ◌-◌, ◌/◌, ◌%◌, suc, false, length, set, take, drop, length-set, sym, ap, ap₂, ◌∙◌, subst, arith, take-append-drop}
use Rattle.std.proofs.lemmas.List.{drop-set, take-set-le}
use Rattle.console.proofs.Printed.{low_digits, low_none, low_more, low_word}
use Rattle.std.specs.Fmt.{digit_glyph}
use Rattle.console.specs.Texts.{word_text}
use Rattle.console.proofs.storage.spaced.Goals as goal

pub loop-at-preserved : goal.loop-at-preserved
loop-at-preserved c =
    let (most, long, front, same) = c.loop-at.invariant in
    let text = c.loop-at.text in
    let at = c.loop-at.at in
    let next : suc (at - 1) ≡ at = omega arith in
    let here : at - 1 + 1 ≡ at = omega arith in
    let written = set text at c.digit.result in
    let first : take 1 written ≡ take 1 text = take-set-le 1 text at c.digit.result (omega arith) in
    let more = same ∙ ap (λ k. low_digits k c.loop-at.left (drop (at + 1) text)) (sym next) ∙ low_more (at - 1) c.loop-at.left (drop (at + 1) text) in
    let put : digit_glyph false (c.loop-at.left % 16) ∷ drop (at + 1) text ≡ drop (at - 1 + 1) written = ap (λ d. d ∷ drop (at + 1) text) (sym c.digit.ensures) ∙ sym (drop-set text at c.digit.result (omega arith)) ∙ ap (λ k. drop k written) (sym here) in
    let after = λ (i : ℕ). (at - 1 ≤ 16) × (length (set text i c.digit.result) ≡ 17) × (take 1 (set text i c.digit.result) ≡ 32 ∷ [])
    × (low_digits 16 c.args.word [] ≡ low_digits (at - 1) (c.loop-at.left / 16) (drop (at - 1 + 1) (set text i c.digit.result))) in
    subst after (sym here) (
      omega arith,
      length-set text at c.digit.result ∙ long,
      first ∙ front,
      more ∙ ap (low_digits (at - 1) (c.loop-at.left / 16)) put,
    )

pub returns : goal.returns
returns c =
    let (most, long, front, same) = c.loop-at.invariant in
    let text = c.loop-at.text in
    let done : c.loop-at.at ≡ 0 = omega arith in
    let rest : word_text c.args.word ≡ drop 1 text =
    sym (low_word c.args.word (omega arith)) ∙ same ∙ ap (λ k. low_digits k c.loop-at.left (drop (k + 1) text)) done ∙ low_none c.loop-at.left (drop 1 text) in
    sym (take-append-drop 1 text) ∙ ap₂ (λ xs ys. xs ++ ys) front (sym rest)
