-- The words that a history leaves, by the keys that are current after it alone.
use Rattle.std.specs.Prelude.{◌≡◌, ℕ, List, take, is_some}
use Rattle.filter.specs.Meaning.{size_of}
use Rattle.filter.specs.Filters.{words_of}
use Rattle.tables.specs.Meaning.{value_in}
use Rattle.history.specs.History.{History}
use Rattle.book.specs.Reached.{State, Reached}

-- Two histories by one fingerprint on filters of one plan and size, whatever these held, over any
-- tables and by any operations: where the same keys are current in the end, the words of the blocks
-- are the same.
abbrev pub WordsAlone : {K : Type 0} → (V : Type 0) → (K → List ℕ) → Type 0
WordsAlone {K} V bytes =
    (start now start' now' : State K V) (h h' : History K V)
    → start'.number ≡ start.number → start'.filter.plan ≡ start.filter.plan
    → start'.filter.blocks ≡ start.filter.blocks
    → Reached bytes start now h → Reached bytes start' now' h'
    → ((k : K) → is_some (value_in bytes now'.table k) ≡ is_some (value_in bytes now.table k))
    → let size = size_of start.filter.plan.r start.filter.blocks in
    take size (words_of now'.filter) ≡ take size (words_of now.filter)
