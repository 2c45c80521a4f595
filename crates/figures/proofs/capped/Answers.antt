use Rattle.std.proofs.Common.{◌≡◌, ℕ, ◌+◌, ◌*◌, ◌-◌, ◌<◌, min, List, length, get_or, take, arith, rules}
use Rattle.std.specs.Str.Parse.{AllDigits, digits_value}
use Rattle.std.proofs.lemmas.Str.{digit_value_digit}
use Rattle.std.proofs.lemmas.Str.Parse.{digit_at}
use Rattle.std.proofs.lemmas.Int.Digits.{digits_value_more}
use Rattle.figures.proofs.capped.Goals as goal

-- one digit more: the number read so far moves up a place, and stays at most 65536
one_more : (ds : List ℕ) (i n : ℕ) → AllDigits 10 ds → i < length ds → n ≡ min (digits_value 10 (take i ds)) 65536 → min (10 * n + (get_or ds i 0 - 48)) 65536 ≡ min (digits_value 10 (take (i + 1) ds)) 65536
one_more ds i n all inside so_far =
    let value = digit_value_digit (get_or ds i 0) (digit_at ds i all inside) in
    rw (digits_value_more 10 ds i inside) (omega (arith, so_far, value))

pub overflow_sub-digit : goal.overflow_sub-digit
overflow_sub-digit c = (digit_at c.args.digits.now c.loop-digit.digit-index c.requires c.loop-digit-test.true).0

pub loop-digit-preserved : goal.loop-digit-preserved
loop-digit-preserved c =
    let more = one_more c.args.digits.now c.loop-digit.digit-index c.loop-digit.number c.requires c.loop-digit-test.true c.loop-digit.invariant in
    search rules
