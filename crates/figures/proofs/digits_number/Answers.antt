use Rattle.std.proofs.Common.{ℕ, ◌+◌, ◌*◌, ◌-◌, ◌<◌, ◌≤◌, List, length, get_or, take, ap, ◌∙◌, subst, take_all, arith, rules}
use Rattle.std.specs.Str.Parse.{AllDigits, digits_value}
use Rattle.std.proofs.lemmas.Str.{digit_value_digit}
use Rattle.std.proofs.lemmas.Str.Parse.{digit_at, digits_value-take-le}
use Rattle.std.proofs.lemmas.Int.Digits.{digits_more, digits_value_more}
use Rattle.figures.proofs.digits_number.Goals as goal

-- the number of all digits is at least that of the first ones and one more
more_first : (ds : List ℕ) (i : ℕ) → i < length ds → AllDigits 10 ds → digits_value 10 (take i ds) * 10 + (get_or ds i 0 - 48) ≤ digits_value 10 ds
more_first ds i inside all =
    let more = digits_value_more 10 ds i inside in
    let value = digit_value_digit (get_or ds i 0) (digit_at ds i all inside) in
    omega (arith, digits_value-take-le 10 ds (i + 1) (omega arith))

pub returns-then-not-is_ascii_digit : goal.returns-then-not-is_ascii_digit
returns-then-not-is_ascii_digit c = record {
  some = tt;
  none = λ all. let range = digit_at c.args.bytes.now c.loop-digit.digit-index all c.loop-digit-test.true in search rules;
}

pub returns-in_err-checked_mul : goal.returns-in_err-checked_mul
returns-in_err-checked_mul c = rw c.from_residual.ensures (record {
  some = tt;
  none = λ all.
      let over = c.in_err-checked_mul.ensures in
      omega (arith, over, c.loop-digit.invariant.1, more_first c.args.bytes.now c.loop-digit.digit-index c.loop-digit-test.true all);
})

pub returns-in_err-number : goal.returns-in_err-number
returns-in_err-number c = rw c.from_residual-in_err-number.ensures (record {
  some = tt;
  none = λ all.
      let over = c.in_err-number.ensures in
      omega (arith, over, c.loop-digit.invariant.1, c.from.ensures, c.in_ok-checked_mul.ensures, more_first c.args.bytes.now c.loop-digit.digit-index c.loop-digit-test.true all);
})

pub loop-digit-preserved : goal.loop-digit-preserved
loop-digit-preserved c =
    let low : 48 ≤ get_or c.args.bytes.now c.loop-digit.digit-index 0 = search rules in
    let high : get_or c.args.bytes.now c.loop-digit.digit-index 0 ≤ 57 = search rules in
    let value = digit_value_digit (get_or c.args.bytes.now c.loop-digit.digit-index 0) (low, high) in
    let more = digits_value_more 10 c.args.bytes.now c.loop-digit.digit-index c.loop-digit-test.true in (
      digits_more 10 _ _ c.loop-digit-test.true c.loop-digit.invariant.0 (omega arith),
      omega (arith, c.loop-digit.invariant.1, c.from.ensures, c.in_ok-checked_mul.ensures, c.in_ok-number.ensures),
    )

pub returns : goal.returns
returns c =
    let same = take_all c.loop-digit.digit-index c.args.bytes.now (omega (arith, c.loop-digit-test.false)) in
    record { some = (subst (AllDigits 10) same c.loop-digit.invariant.0, c.loop-digit.invariant.1 ∙ ap (digits_value 10) same); none = tt }
