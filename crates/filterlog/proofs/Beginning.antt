-- What a log begins with.
use Rattle.std.proofs.Common.{◌≡◌, ℕ, ◌+◌, ◌*◌, ◌<◌, min, arith, mul-div_cancel}
use Rattle.layout.specs.Format.{block_count}

-- a filter over words for so many blocks, at most 16,640, has so many
pub blocks_exact : (r blocks made lent words : ℕ) → made ≡ block_count r lent → lent ≡ words → words ≡ min blocks 16640 * (r + 3) → made ≡ min blocks 16640
blocks_exact r blocks made lent words e same size =
    let some : 0 < r + 3 = omega arith in
    rw (e, same, size) (omega (arith, mul-div_cancel (min blocks 16640) some))
