-- The numbers of the refusals.
use Rattle.std.specs.Prelude.{ℕ}
use Rattle.tables.specs.declared.fault.TableFault.{TableFault}
use Rattle.tables.specs.declared.fault.TableFault.TheVariants.{ForeignGlyph, TableFull, NotHeld}

-- the number that a customer sees
abbrev pub table_fault_number : TableFault → ℕ
table_fault_number ForeignGlyph = 30
table_fault_number TableFull = 31
table_fault_number NotHeld = 32
