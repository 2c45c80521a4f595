use Rattle.std.proofs.Common.{◌≡◌, ℕ, ◌+◌, ◌%◌, ◌^◌, ◌≤◌, ◌⊎◌, subst, arith, rules}
use Rattle.words.specs.Bits.{field}
use Rattle.words.specs.Row.{long_number}
use Rattle.words.proofs.Rows.{Words}
use Rattle.blocks.proofs.Heads.{wrote_remainder}
use Rattle.blocks.proofs.writing.set_remainder.Goals as goal

pub returns : goal.returns
returns c =
    let r = c.args.width.bits in
    let ws = c.args.words.now in
    let vs = c.set_field.new.words in
    let e = c.place_of.ensures in
    let hw : Words ws = λ k. search rules in
    let hv : Words vs = λ k. search rules in
    record {
      inside = λ l. wrote_remainder r ws vs c.args.s.0 (c.args.v % 2 ^ r) hw hv
          (subst (λ p. field (long_number vs) p r ≡ c.args.v % 2 ^ r) e (c.set_field.ensures.written (omega arith)))
          (subst (λ q. (p k : ℕ) → (p + k ≤ q) ⊎ (q + r ≤ p) → field (long_number vs) p k ≡ field (long_number ws) p k) e c.set_field.ensures.others);
      past = λ l. c.set_field.ensures.past (omega arith);
    }
