use Rattle.std.proofs.Common.{◌≡◌, ℕ, ◌+◌, ◌-◌, ◌%◌, ◌^◌, ◌<◌, ◌≤◌, ap, ◌∙◌, ⊎_elim, arith, rules}
use Rattle.std.specs.Int.Bits.{bit_and, and_zero_l}
use Rattle.std.proofs.lemmas.Bool.{cases_lt}
use Rattle.words.specs.Bits.{ones_under}
use Rattle.words.proofs.Ones.{lowest, below_zero}
use Rattle.words.proofs.without_lowest.Goals as goal

pub returns : goal.returns
returns c =
    let w : ℕ = c.args.w in
    let under : w < 2 ^ 64 = search rules in
    let less : ℕ = (w + 18446744073709551615) % 18446744073709551616 in
    λ n. ⊎_elim
    (λ (l : 0 < w).
    let e : less ≡ w - 1 = omega arith in
    ap (λ y. ones_under (bit_and w y) n) e ∙ (lowest w l under).rest n)
    (λ (l : w ≤ 0).
    let z : w ≡ 0 = omega arith in
    omega (arith, ap (λ y. ones_under (bit_and y less) n) z ∙ ap (λ y. ones_under y n) (and_zero_l less) ∙ below_zero n, ap (λ y. ones_under y n) z ∙ below_zero n))
    (cases_lt 0 w)
