-- The numbers of the refusals.
use Rattle.std.specs.Prelude.{ℕ}
use Rattle.filter.specs.declared.fault.FilterFault.{FilterFault}
use Rattle.filter.specs.declared.fault.FilterFault.TheVariants.{BadPlan, WideFingerprint, NoSlot, NoSuchFingerprint}

-- the number that a customer sees
abbrev pub filter_fault_number : FilterFault → ℕ
filter_fault_number BadPlan = 10
filter_fault_number WideFingerprint = 12
filter_fault_number NoSlot = 20
filter_fault_number NoSuchFingerprint = 21
