use Rattle.std.proofs.Common.{◌≡◌, ◌+◌, ◌-◌, refl, inl, arith}
use Rattle.words.specs.Row.{long_number, Copied}
use Rattle.words.proofs.Copies.{copied_up, copied_same}
use Rattle.words.proofs.moves.move_bits_up.Goals as goal

pub loop-at-preserved : goal.loop-at-preserved
loop-at-preserved c =
    let at = c.loop-at.at in
    let s = c.args.by.bits in
    let n = long_number c.args.words.now in
    let m = long_number c.loop-at.words in
    let l = long_number c.copy_word_up.new.words in
    let count : 64 ≡ at - (at - 64) = omega arith in
    let last : Copied m l ((at - 64) - s) (at - 64) (at - (at - 64)) = copied_same m l _ _ _ _ _ _ refl refl count c.copy_word_up.ensures in (
      omega arith,
      omega arith,
      inl (omega arith),
      copied_up n m l s c.args.to at (at - 64) (omega arith) (omega arith) (omega arith) c.loop-at.invariant.3 last,
    )

pub returns-then-low-at-clause-inside : goal.returns-then-low-at-clause-inside
returns-then-low-at-clause-inside c fits =
    let at = c.loop-at.at in
    let from = c.args.from in
    let s = c.args.by.bits in
    let low = c.saturating_add-low.result in
    let n = long_number c.args.words.now in
    let m = long_number c.loop-at.words in
    let l = long_number c.copy_bits-then-low-at.new.words in
    let is : low ≡ from + s = omega arith in
    let source : from ≡ low - s = omega arith in
    let back : low - s ≡ from = omega arith in
    let count : c.args.to - low ≡ c.args.to - (from + s) = omega arith in
    let last : Copied m l (low - s) low (at - low) = copied_same m l _ _ _ _ _ _ source refl refl c.copy_bits-then-low-at.ensures in
    copied_same n l _ _ _ _ _ _ back is count (copied_up n m l s c.args.to at low (omega arith) (omega arith) (omega arith) c.loop-at.invariant.3 last)
