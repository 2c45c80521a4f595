use Rattle.std.proofs.Common.{rules, ◌<◌, ◌≤◌, ℕ, length, slice_index}
use Rattle.std.proofs.lemmas.Str.Parse.{numerals_by_value, tells_by_index}
use Rattle.figures.proofs.leading_digits.Goals as goal

pub returns-clause-digits : goal.returns-clause-digits
returns-clause-digits c =
    let each : (k : ℕ) → k < length c.split_at.result.0.now → (48 ≤ slice_index c.split_at.result.0.now k) × (slice_index c.split_at.result.0.now k ≤ 57) = search rules in
    (numerals_by_value _ tells_by_index).to _ each
