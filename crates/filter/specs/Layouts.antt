-- The list that words with a layout hold, and the rows that follow from it.
use Rattle.std.specs.Prelude.{◌≡◌, ℕ, ◌*◌, List, take}
use Rattle.layout.specs.Rule.{many}
use Rattle.blocks.specs.Views.{runend_in, remainder_in}
use Rattle.filter.specs.Meaning.{size_of, fingerprints_in}
use Rattle.filter.specs.Filters.{words_of}
use Rattle.filter.specs.declared.laid.Layout.{Layout}
use Rattle.filter.specs.declared.filter.Filter.{Filter}

-- the bits of its remainders
abbrev pub bits_of : Layout → ℕ
bits_of l = l.blocks.width.bits

-- its words
abbrev pub words_in : Layout → List ℕ
words_in l = l.blocks.words.now

-- its entries, in rising order
abbrev pub entries : Layout → List ℕ
entries l = fingerprints_in (bits_of l) l.count (words_in l)

-- how many of them each quotient has
abbrev pub many_of : Layout → ℕ → ℕ
many_of l = many (bits_of l) (entries l)

-- its runend bits, slot by slot
abbrev pub runends_of : Layout → ℕ → ℕ
runends_of l = runend_in (bits_of l) (words_in l)

-- its remainders, slot by slot
abbrev pub remainders_of : Layout → ℕ → ℕ
remainders_of l = remainder_in (bits_of l) (words_in l)

-- how many slots its blocks have
abbrev pub slots_in : Layout → ℕ
slots_in l = 64 * l.count

-- l has the words of the blocks of f
pub record LayoutOf (f : Filter) (l : Layout) : Type 0 where
  pub bits : bits_of l ≡ f.plan.r
  pub count : l.count ≡ f.blocks
  pub words : words_in l ≡ take (size_of f.plan.r f.blocks) (words_of f)
