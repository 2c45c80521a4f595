use Rattle.std.proofs.Common.{◌≡◌, ◌+◌, ◌-◌, refl, inl, arith}
use Rattle.words.specs.Row.{long_number, Copied}
use Rattle.words.proofs.Copies.{copied_down, copied_same}
use Rattle.words.proofs.moves.move_bits_down.Goals as goal

pub loop-at-preserved : goal.loop-at-preserved
loop-at-preserved c =
    let at = c.loop-at.at in
    let s = c.args.by.bits in
    let n = long_number c.args.words.now in
    let m = long_number c.loop-at.words in
    let l = long_number c.copy_word_down.new.words in
    let count : 64 ≡ (at + 64) - at = omega arith in
    let last : Copied m l (at + s) at ((at + 64) - at) = copied_same m l _ _ _ _ _ _ refl refl count c.copy_word_down.ensures in (
      omega arith,
      omega arith,
      inl (omega arith),
      copied_down n m l s c.args.from at (at + 64) (omega arith) (omega arith) c.loop-at.invariant.3 last,
    )

pub returns-then-at-high-clause-inside : goal.returns-then-at-high-clause-inside
returns-then-at-high-clause-inside c fits =
    let at = c.loop-at.at in
    let from = c.args.from in
    let s = c.args.by.bits in
    let high = c.saturating_sub-high.result in
    let n = long_number c.args.words.now in
    let m = long_number c.loop-at.words in
    let l = long_number c.copy_bits-then-at-high.new.words in
    let count : high - from ≡ c.args.to - (from + s) = omega arith in
    copied_same n l _ _ _ _ _ _ refl refl count (copied_down n m l s from at high (omega arith) (omega arith) c.loop-at.invariant.3 c.copy_bits-then-at-high.ensures)
