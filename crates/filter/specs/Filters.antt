-- A filter's meaning, and what its calls promise.
use Rattle.std.specs.Prelude.{◌≡◌, ℕ, ◌+◌, ◌*◌, ◌^◌, ◌<◌, ◌≤◌, Bool, List, [], ◌∷◌, ◌++◌, length, take, drop, replicate, Ok, Err, Result, nat_lt, slice_index}
use Rattle.std.specs.Borrow.{MutBor}
use Rattle.layout.specs.Rule.{quotient, sorted, with_one, without_one, layout, used_at, Crowded, Roomy}
use Rattle.layout.specs.Format.{block_count, filter_words}
use Rattle.layout.specs.Laws.{copies_of}
use Rattle.filter.specs.Meaning.{size_of, entries_of}
use Rattle.filter.specs.declared.fault.FilterFault.{FilterFault}
use Rattle.filter.specs.declared.fault.FilterFault.TheVariants.{BadPlan, WideFingerprint, NoSlot, NoSuchFingerprint}
use Rattle.filter.specs.declared.plan.Plan.{Plan}
use Rattle.filter.specs.declared.filter.Filter.{Filter}

-- the words that the filter was lent, those after its blocks among them
abbrev pub words_of : Filter → List ℕ
words_of f = f.words.now

-- its entries, in rising order
abbrev pub fingerprints : Filter → List ℕ
fingerprints f = entries_of f.plan.r f.blocks (words_of f)

-- how many slots its blocks have
abbrev pub slots_of : Filter → ℕ
slots_of f = 64 * f.blocks

-- plan, blocks and loan are the same
pub record SameFilter (f g : Filter) : Type 0 where
  pub plan : g.plan ≡ f.plan
  pub blocks : g.blocks ≡ f.blocks
  pub lender : g.words.ghost_name ≡ f.words.ghost_name

-- the words of that many blocks with the layout of a list, and what stood after them
abbrev pub laid_over : ℕ → ℕ → List ℕ → List ℕ → List ℕ
laid_over r blocks ps ws = filter_words r blocks ps ++ drop (size_of r blocks) ws

-- all words of the blocks 0, and what stood after them
abbrev pub cleared_over : ℕ → ℕ → List ℕ → List ℕ
cleared_over r blocks ws = replicate (size_of r blocks) 0 ++ drop (size_of r blocks) ws

-- What beginning a filter under plan p over lent words gives: f. It has as many whole blocks as there are words for, at most 16,640, and no entry; all words
-- of its blocks are 0, and those after them stay.
pub record Begun (p : Plan) (lent : MutBor (List ℕ)) (f : Filter) : Type 0 where
  pub plan : f.plan ≡ p
  pub blocks : f.blocks ≡ block_count p.r (length lent.now)
  pub empty : fingerprints f ≡ []
  pub words : words_of f ≡ cleared_over p.r f.blocks lent.now
  pub lender : f.words.ghost_name ≡ lent.ghost_name

-- The words ws of the blocks of f depend on its entries alone, not on what was asked of it before: any filter of that plan and size that holds the same
-- entries has these words, and only such a one has them.
abbrev pub WordsOfList : Filter → List ℕ → Type 0
WordsOfList f ws = (g : Filter) → g.plan ≡ f.plan → g.blocks ≡ f.blocks
    → (fingerprints g ≡ fingerprints f → take (size_of g.plan.r g.blocks) (words_of g) ≡ ws)
    × (take (size_of g.plan.r g.blocks) (words_of g) ≡ ws → fingerprints g ≡ fingerprints f)

-- each is a fingerprint under the plan
abbrev pub Narrow : Plan → List ℕ → Type 0
Narrow plan ps = (k : ℕ) → k < length ps → slice_index ps k < 2 ^ (plan.q + plan.r)

-- one is none
abbrev pub Wide : Plan → List ℕ → Type 0
Wide plan ps = (k : ℕ) × (k < length ps) × (2 ^ (plan.q + plan.r) ≤ slice_index ps k)

-- some quotient under the plan is crowded
abbrev pub Crowds : Plan → ℕ → List ℕ → Type 0
Crowds plan slots ps = (c : ℕ) × (c < 2 ^ plan.q) × Crowded slots plan.r ps c

-- What laying out a list makes of filter f and of the memory of the list: g and left.
abbrev pub LaidOut : Filter → Filter → List ℕ → List ℕ → Result (Unit {0}) FilterFault → Type 0
LaidOut f g list left (Ok done) =
    Narrow f.plan list × Roomy (slots_of f) f.plan.r list
    × (fingerprints g ≡ sorted list) × (words_of g ≡ laid_over f.plan.r f.blocks list (words_of f)) × (left ≡ sorted list)
LaidOut f g list left (Err WideFingerprint) =
    Wide f.plan list × (g ≡ f) × (left ≡ list)
LaidOut f g list left (Err NoSlot) =
    Narrow f.plan list × Crowds f.plan (slots_of f) list
    × (fingerprints g ≡ []) × (words_of g ≡ cleared_over f.plan.r f.blocks (words_of f)) × (left ≡ sorted list)
LaidOut f g list left (Err BadPlan) = ⊥
LaidOut f g list left (Err NoSuchFingerprint) = ⊥

-- some slot from quotient c on is free
abbrev pub FreeFrom : Filter → ℕ → Type 0
FreeFrom f c = (u : ℕ) × (c ≤ u) × (u < slots_of f) × (used_at (layout f.plan.r (fingerprints f)) u ≡ 0)

-- all slots from quotient c on are used
abbrev pub FullFrom : Filter → ℕ → Type 0
FullFrom f c = (u : ℕ) → c ≤ u → u < slots_of f → used_at (layout f.plan.r (fingerprints f)) u ≡ 1

-- whether an entry of f has fingerprint p
abbrev pub SaysWhether : Filter → ℕ → Result Bool FilterFault → Type 0
SaysWhether f p (Ok there) = (p < 2 ^ (f.plan.q + f.plan.r)) × (there ≡ nat_lt 0 (copies_of p (fingerprints f)))
SaysWhether f p (Err WideFingerprint) = 2 ^ (f.plan.q + f.plan.r) ≤ p
SaysWhether f p (Err NoSlot) = ⊥
SaysWhether f p (Err BadPlan) = ⊥
SaysWhether f p (Err NoSuchFingerprint) = ⊥

-- What one more entry of p makes of filter f: g. It is refused a slot where some quotient is crowded with the newcomer counted, and so where no slot from
-- its quotient on is free.
abbrev pub Added : Filter → Filter → ℕ → Result (Unit {0}) FilterFault → Type 0
Added f g p (Ok done) =
    (p < 2 ^ (f.plan.q + f.plan.r)) × Roomy (slots_of f) f.plan.r (p ∷ fingerprints f) × FreeFrom f (quotient f.plan.r p)
    × (fingerprints g ≡ with_one p (fingerprints f)) × (words_of g ≡ laid_over f.plan.r f.blocks (p ∷ fingerprints f) (words_of f))
Added f g p (Err WideFingerprint) = (2 ^ (f.plan.q + f.plan.r) ≤ p) × (g ≡ f)
Added f g p (Err NoSlot) =
    (p < 2 ^ (f.plan.q + f.plan.r)) × Crowds f.plan (slots_of f) (p ∷ fingerprints f) × FullFrom f (quotient f.plan.r p) × (g ≡ f)
Added f g p (Err BadPlan) = ⊥
Added f g p (Err NoSuchFingerprint) = ⊥

-- What one entry of p less makes of filter f: g.
abbrev pub Taken : Filter → Filter → ℕ → Result (Unit {0}) FilterFault → Type 0
Taken f g p (Ok done) =
    (p < 2 ^ (f.plan.q + f.plan.r)) × (0 < copies_of p (fingerprints f))
    × (fingerprints g ≡ without_one p (fingerprints f)) × (words_of g ≡ laid_over f.plan.r f.blocks (without_one p (fingerprints f)) (words_of f))
Taken f g p (Err WideFingerprint) = (2 ^ (f.plan.q + f.plan.r) ≤ p) × (g ≡ f)
Taken f g p (Err NoSuchFingerprint) = (p < 2 ^ (f.plan.q + f.plan.r)) × (copies_of p (fingerprints f) ≡ 0) × (g ≡ f)
Taken f g p (Err NoSlot) = ⊥
Taken f g p (Err BadPlan) = ⊥
