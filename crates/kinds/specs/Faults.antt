-- The numbers of the faults.
use Rattle.std.specs.Prelude.{ℕ}
use Rattle.kinds.specs.declared.ligature.KeyFault.{KeyFault}
use Rattle.kinds.specs.declared.ligature.KeyFault.TheVariants.{BadSequence}

-- the number of a fault
abbrev pub key_fault_number : KeyFault → ℕ
key_fault_number BadSequence = 11
