-- Sequences of glyphs.
use Rattle.std.specs.Prelude.{ℕ, Bool, ◌&&◌, List, [], ◌∷◌, nat_le}
use Rattle.kinds.specs.declared.sequence.Sequence.{Sequence}
use Rattle.kinds.specs.declared.sequence.Sequence.TheVariants.{Two, Three, Four}

-- whether a sequence may have so many glyphs
abbrev pub two_to_four : ℕ → Bool
two_to_four n = nat_le 2 n && nat_le n 4

-- the glyphs of a sequence, in order
abbrev pub glyphs_of : Sequence → List ℕ
glyphs_of (Two a b) = a ∷ b ∷ []
glyphs_of (Three a b c) = a ∷ b ∷ c ∷ []
glyphs_of (Four a b c d) = a ∷ b ∷ c ∷ d ∷ []
