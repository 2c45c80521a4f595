-- Worked examples. Each is about every filter of the named size, and about what the calls promise, whatever was done to it before.
-- Quotients have 6 bits and remainders 8: the quotient of fingerprint p is p / 256, and a block has 11 words.
use Rattle.std.specs.Prelude.{◌≡◌, ℕ, ◌+◌, ◌<◌, ◌≤◌, min, ◌↔◌, List, [], ◌∷◌, ◌++◌, length, take, replicate, Some, None, Ok, Err, Option, Result, slice_index}
use Rattle.std.specs.List.{AllByRecursion as Every}
use Rattle.std.specs.Borrow.{MutBor}
use Rattle.words.specs.Bits.{ones_under, Selected}
use Rattle.layout.specs.Rule.{quotient, remainder, sorted}
use Rattle.filter.specs.Meaning.{size_of}
use Rattle.filter.specs.Slots.{slot_shown}
use Rattle.filter.specs.Filters.{words_of, fingerprints, Begun, Added, Taken}
use Rattle.filter.specs.Faults.{filter_fault_number}
use Rattle.filter.specs.declared.fault.FilterFault.{FilterFault}
use Rattle.filter.specs.declared.fault.FilterFault.TheVariants.{NoSlot}
use Rattle.filter.specs.declared.plan.Plan.{Plan}
use Rattle.filter.specs.declared.filter.Filter.{Filter}
use Rattle.kinds.specs.Hashes.{fibonacci}

-- the words of a filter's blocks
abbrev pub words_of_blocks : Filter → List ℕ
words_of_blocks f = take (size_of f.plan.r f.blocks) (words_of f)

-- quotients of 6 bits, remainders of 8, and b blocks
pub record SmallFilter (f : Filter) (b : ℕ) : Type 0 where
  pub quotients : f.plan.q ≡ 6
  pub remainders : f.plan.r ≡ 8
  pub blocks : f.blocks ≡ b

-- g is what `add` left of f where it took one more entry of p
pub record AfterAdd (f : Filter) (p : ℕ) (g : Filter) : Type 0 where
  pub plan : g.plan ≡ f.plan
  pub blocks : g.blocks ≡ f.blocks
  pub done : Added f g p (Ok tt)

-- g is what was left of f after an `add` of each of the list, one after the other
abbrev pub AfterAdds : Filter → List ℕ → Filter → Type 0
AfterAdds f [] g = g ≡ f
AfterAdds f (p ∷ ps) g = (h : Filter) × AfterAdd f p h × AfterAdds h ps g

-- g is what `take` left of f where it took an entry of p out
pub record AfterTake (f : Filter) (p : ℕ) (g : Filter) : Type 0 where
  pub plan : g.plan ≡ f.plan
  pub blocks : g.blocks ≡ f.blocks
  pub done : Taken f g p (Ok tt)

-- In b empty blocks the fingerprints of a list are added in any order, and `add` refuses none: not p, where the ps were added before and the rest not yet.
abbrev pub NoneRefused : ℕ → List ℕ → Type 0
NoneRefused b all = (f g h : Filter) (ps : List ℕ) (p : ℕ) (rest : List ℕ) (res : Result (Unit {0}) FilterFault) → SmallFilter f b → fingerprints f ≡ []
    → sorted (ps ++ p ∷ rest) ≡ all → AfterAdds f ps g → Added g h p res → res ≡ Ok tt

-- three fingerprints of the last quotient of a block, 63; some may be equal
pub record ThreeOfLast (ps : List ℕ) : Type 0 where
  pub three : length ps ≡ 3
  pub last : Every (λ p. quotient 8 p ≡ 63) ps

-- slot s of f shows that quotient and the remainder of p
abbrev pub ShowsLast : Filter → ℕ → ℕ → Type 0
ShowsLast f s p = slot_shown f.plan.r (fingerprints f) s ≡ Some (record { 0 = 63 }, remainder 8 p)

pub record Examples : Type 0 where
  -- what `begin` gives over 11 words, or up to 21: one block, and all 11 words of it are 0
  pub empty_block : (p : Plan) (lent : MutBor (List ℕ)) (f : Filter) → p.q ≡ 6 → p.r ≡ 8
      → 11 ≤ length lent.now → length lent.now < 22 → Begun p lent f
      → (f.blocks ≡ 1) × (words_of_blocks f ≡ replicate 11 0)
  -- one block without entries, however it came to that: all 11 words are 0
  pub no_entries : (f : Filter) → SmallFilter f 1 → fingerprints f ≡ []
      → words_of_blocks f ≡ replicate 11 0
  -- 1287, 1289 and 1539 added to one empty block in any order: quotients 5, 5 and 6, in slots 5 to 7
  pub three_entries : (f g : Filter) (ps : List ℕ) → SmallFilter f 1 → fingerprints f ≡ []
      → sorted ps ≡ 1287 ∷ 1289 ∷ 1539 ∷ [] → AfterAdds f ps g
      → words_of_blocks g ≡ 96 ∷ 192 ∷ 0 ∷ 0x0309_0700_0000_0000 ∷ replicate 7 0
  -- 1289, 1287, 1539 is such an order
  pub such_an_order : sorted (1289 ∷ 1287 ∷ 1539 ∷ []) ≡ 1287 ∷ 1289 ∷ 1539 ∷ []
  -- and none of the three is refused
  pub three_accepted : NoneRefused 1 (1287 ∷ 1289 ∷ 1539 ∷ [])
  -- 1287 then taken out: the other two move down by one slot
  pub one_taken : (f g h : Filter) (ps : List ℕ) → SmallFilter f 1 → fingerprints f ≡ []
      → sorted ps ≡ 1287 ∷ 1289 ∷ 1539 ∷ [] → AfterAdds f ps g → AfterTake g 1287 h
      → words_of_blocks h ≡ 96 ∷ 96 ∷ 0 ∷ 0x0003_0900_0000_0000 ∷ replicate 7 0
  -- and it is not refused
  pub take_accepted : (g h : Filter) (res : Result (Unit {0}) FilterFault) → SmallFilter g 1 → fingerprints g ≡ 1287 ∷ 1289 ∷ 1539 ∷ []
      → Taken g h 1287 res → res ≡ Ok tt
  -- Two blocks, and any three entries of the last quotient of the first block, added in any order: they lie in slots 63, 64 and 65, in rising order.
  -- So the second block has a runend bit at its slot 1, and its offset is 2.
  pub run_over : (f g : Filter) (ps : List ℕ) → SmallFilter f 2 → fingerprints f ≡ []
      → ThreeOfLast ps → AfterAdds f ps g
      → ShowsLast g 63 (slice_index (sorted ps) 0)
      × ShowsLast g 64 (slice_index (sorted ps) 1)
      × ShowsLast g 65 (slice_index (sorted ps) 2)
      × (slice_index (words_of_blocks g) 12 ≡ 2) × (slice_index (words_of_blocks g) 13 ≡ 2)
  -- and none of the three is refused
  pub run_over_accepted : (ps : List ℕ) → ThreeOfLast ps → NoneRefused 2 (sorted ps)
  -- one block with an entry of the last quotient, 63: a second one is refused
  pub last_quotient_full : (f g : Filter) (a p : ℕ) (res : Result (Unit {0}) FilterFault) → SmallFilter f 1
      → fingerprints f ≡ a ∷ [] → quotient 8 a ≡ 63 → quotient 8 p ≡ 63 → Added f g p res → res ≡ Err NoSlot
  -- one block with two entries of quotient 62: one of quotient 63 is refused, though 62 slots are free
  pub free_slots_below : (f g : Filter) (a b p : ℕ) (res : Result (Unit {0}) FilterFault) → SmallFilter f 1
      → fingerprints f ≡ a ∷ b ∷ [] → quotient 8 a ≡ 62 → quotient 8 b ≡ 62 → quotient 8 p ≡ 63 → Added f g p res → res ≡ Err NoSlot
  -- the number of these refusals
  pub no_slot_number : filter_fault_number NoSlot ≡ 20
  -- one block whose last slot is used: an entry of quotient 0 is not refused
  pub last_slot_used : (f g : Filter) (a p : ℕ) (res : Result (Unit {0}) FilterFault)
      → SmallFilter f 1
      → fingerprints f ≡ a ∷ [] → quotient 8 a ≡ 63 → quotient 8 p ≡ 0 → Added f g p res → res ≡ Ok tt
  -- three blocks and 150 entries of fingerprint 0: the offsets of the blocks
  pub long_run : (f g : Filter) → SmallFilter f 3 → fingerprints f ≡ []
      → AfterAdds f (replicate 150 0) g
      → (slice_index (words_of_blocks g) 2 ≡ 0) × (slice_index (words_of_blocks g) 13 ≡ 86) × (slice_index (words_of_blocks g) 24 ≡ 22)
  -- and none of the 150 is refused
  pub long_run_accepted : NoneRefused 3 (replicate 150 0)
  -- the fingerprint of the pair of glyphs 0 and 1
  pub pair_zero_one : fibonacci 0 1 ≡ 2042207799
  -- of 1 and 0
  pub pair_one_zero : fibonacci 1 0 ≡ 31161
  -- and of 0 and 0
  pub pair_zero_zero : fibonacci 0 0 ≡ 0
  -- word 96 has ones at places 5 and 6: one of them at place 5 or below
  pub rank_five : ones_under 96 (min (5 + 1) 64) ≡ 1
  -- word 192 has ones at places 6 and 7: the second is at 7
  pub select_second : (o : Option ℕ) → Selected 192 2 o ↔ (o ≡ Some 7)
  -- and there is no third
  pub select_third : (o : Option ℕ) → Selected 192 3 o ↔ (o ≡ None)
