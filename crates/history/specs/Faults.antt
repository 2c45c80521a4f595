-- The numbers of a book's refusals: those of the parts below it, and its own.
use Rattle.std.specs.Prelude.{ℕ}
use Rattle.filter.specs.Faults.{filter_fault_number}
use Rattle.tables.specs.Faults.{table_fault_number}
use Rattle.history.specs.declared.fault.BookFault.{BookFault}
use Rattle.history.specs.declared.fault.BookFault.TheVariants.{Filter, Table, StrangeFilter}

-- the number that a customer sees: that of the part that refuses, or the book's own
abbrev pub book_fault_number : BookFault → ℕ
book_fault_number (Filter f) = filter_fault_number f
book_fault_number (Table f) = table_fault_number f
book_fault_number StrangeFilter = 40
