use Rattle.std.proofs.Common.{◌≡◌, ℕ, ◌*◌, ◌<◌, ◌≤◌, cond, ltb, length, get_or}
use Rattle.layout.specs.Rule.{quotient, laid, occupied_at, runend_at, offset_at, remainder_at}
use Rattle.layout.specs.Places.{next_of}
use Rattle.blocks.specs.Views.{occupied_bit_in, runend_in, offset_in, remainder_in}
use Rattle.filter.proofs.laying.Rising.lay_offsets.Given as goal

-- the blocks below b have their offsets, and the first i are fingerprints with a quotient below block b
abbrev pub invariant-loop-b : goal.invariant-loop-b
invariant-loop-b l =
    (l.i ≤ length l.self.list.now)
    × (l.next ≡ next_of l.self.width.bits l.self.list.now l.i)
    × ((k : ℕ) → k < l.i → quotient l.self.width.bits (get_or l.self.list.now k 0) < 64 * l.b)
    × ((c : ℕ) → occupied_bit_in l.self.width.bits l.words c ≡ occupied_at l.self.width.bits l.self.list.now c)
    × ((s : ℕ) → runend_in l.self.width.bits l.words s ≡ runend_at l.self.width.bits (laid l.self.width.bits 0 l.self.list.now) s)
    × ((k : ℕ) → offset_in l.self.width.bits l.words k ≡ cond (ltb k l.b) (offset_at l.self.width.bits (laid l.self.width.bits 0 l.self.list.now) (64 * k)) 0)
    × ((s : ℕ) → remainder_in l.self.width.bits l.words s ≡ remainder_at l.self.width.bits (laid l.self.width.bits 0 l.self.list.now) s)
