-- What is written of what a book did.
use Rattle.std.specs.Prelude.{ℕ, List, [], ◌++◌, Some, None, Option, codes, option_map, unwrap_or}
use Rattle.history.specs.declared.answer.Found.{Found}
use Rattle.history.specs.declared.answer.Found.TheVariants as found
use Rattle.history.specs.declared.answer.Stored.{Stored}
use Rattle.history.specs.declared.answer.Stored.TheVariants.{Kept, Changed}
use Rattle.history.specs.declared.answer.Told.{Told}
use Rattle.history.specs.declared.answer.Told.TheVariants as told

-- what a put did
abbrev pub stored_text : Stored → List ℕ
stored_text Kept = codes "kept"
stored_text Changed = codes "changed"

-- what a find gave, and the part that gave it, with a value as `shown` writes it, if that is stated
abbrev pub found_text : {V : Type 0} → (V → Option (List ℕ)) → Found V → Option (List ℕ)
found_text shown found.Filter = Some (codes "none filter")
found_text shown (found.Table None) = Some (codes "none table")
found_text shown (found.Table (Some v)) = option_map (λ text. text ++ codes " table") (shown v)

-- what an operation did
abbrev pub told_text : {V : Type 0} → (V → Option (List ℕ)) → Told V → Option (List ℕ)
told_text shown (told.Stored s) = Some (stored_text s)
told_text shown told.Dropped = Some (codes "dropped")
told_text shown (told.Found f) = found_text shown f

-- the same, where each value has a text, as `shown` writes it
abbrev pub value_told_text : {V : Type 0} → (V → List ℕ) → Told V → List ℕ
value_told_text shown told = unwrap_or (told_text (λ v. Some (shown v)) told) []
