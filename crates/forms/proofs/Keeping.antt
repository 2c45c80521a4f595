-- What a row that is kept says of its numbers.
use Rattle.std.proofs.Common.{◌≡◌, ℕ, ◌<◌, min, [], ◌∷◌, Some, None, Option, Ok, Err, Result, MatchResult, ◌∙◌, arith}
use Rattle.std.specs.Result.{result_ok}
use Rattle.std.specs.Option.{option_map}
use Rattle.figures.specs.declared.FigureFault.{FigureFault}
use Rattle.figures.specs.declared.FigureFault.TheVariants.{TooLarge}
use Rattle.figures.specs.Numbers.{Glyph}
use Rattle.forms.specs.declared.row.Row.TheVariants.{One}
use Rattle.forms.specs.Rows.{GlyphOf, Held}

-- the glyph number of a figure
pub numbered : (n v : ℕ) (r : Result ℕ FigureFault) (o : Option ℕ) → v ≡ min n 65536 → MatchResult r (λ g. (g ≡ v) × Glyph v) (λ e. (e ≡ TooLarge) × (65535 < v)) → o ≡ result_ok r → GlyphOf o n
numbered n v (Ok g) o e h is = let small = h.1 in let same : v ≡ n = omega arith in rw is (h.0 ∙ same, omega arith)
numbered n v (Err f) o e h is = let large = h.1 in rw is (omega arith)

-- a row of one number
pub held_one : (n : ℕ) (o : Option ℕ) → GlyphOf o n → Held (option_map One o) (n ∷ [])
held_one n None h = λ all. omega (arith, all.0)
held_one n (Some g) (e, small) = ((small, tt), cc)
