use Rattle.std.proofs.Common.{◌≡◌, ◌+◌, ◌^◌, ◌≤◌, take}
use Rattle.layout.specs.Places.{slot_after}
use Rattle.layout.proofs.slots_needed.Given as goal

-- `next` is the slot after the fingerprints so far
abbrev pub invariant-loop-p : goal.invariant-loop-p
invariant-loop-p l = (l.next ≡ slot_after l.width.bits 0 (take l.p-index l.rising)) × (l.next ≤ 2 ^ 63 + l.p-index)
