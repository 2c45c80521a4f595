-- When two keys are the same.
use Rattle.std.specs.Prelude.{ℕ, Bool, List}
use Rattle.std.specs.Str.{bytes_eq}

-- whether two keys have the same bytes
abbrev pub same_key : {K : Type 0} → (K → List ℕ) → K → K → Bool
same_key bytes a b = bytes_eq (bytes a) (bytes b)
