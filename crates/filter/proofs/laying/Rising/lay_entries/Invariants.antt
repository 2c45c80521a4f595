use Rattle.std.proofs.Common.{◌≡◌, ℕ, cond, ltb, take}
use Rattle.layout.specs.Rule.{laid, occupied_at, runend_at, remainder_at}
use Rattle.layout.specs.Places.{next_of}
use Rattle.blocks.specs.Views.{occupied_bit_in, runend_in, offset_in, remainder_in}
use Rattle.filter.proofs.laying.Rising.lay_entries.Given as goal

-- the first i lie in their slots, and all slots from `next` on are free
abbrev pub invariant-loop-i : goal.invariant-loop-i
invariant-loop-i l =
    (l.next ≡ next_of l.self.width.bits l.self.list.now l.i)
    × ((k : ℕ) → occupied_bit_in l.self.width.bits l.words k ≡ occupied_at l.self.width.bits (take l.i l.self.list.now) k)
    × ((k : ℕ) → runend_in l.self.width.bits l.words k ≡ cond (ltb k l.next) (runend_at l.self.width.bits (laid l.self.width.bits 0 l.self.list.now) k) 0)
    × ((k : ℕ) → offset_in l.self.width.bits l.words k ≡ 0)
    × ((k : ℕ) → remainder_in l.self.width.bits l.words k ≡ cond (ltb k l.next) (remainder_at l.self.width.bits (laid l.self.width.bits 0 l.self.list.now) k) 0)
