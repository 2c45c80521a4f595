-- The numbers of the refusals.
use Rattle.std.specs.Prelude.{ℕ}
use Rattle.history.specs.Faults.{book_fault_number}
use Rattle.forms.specs.Faults.{line_fault_number}
use Rattle.answers.specs.declared.fault.BufferFault.{BufferFault}
use Rattle.answers.specs.declared.fault.BufferFault.TheVariants.{ShortBuffer}
use Rattle.answers.specs.declared.fault.Refusal.{Refusal}
use Rattle.answers.specs.declared.fault.Refusal.TheVariants.{LongSheet, Buffer, Line, Book}

-- the number that a customer sees, of a buffer
abbrev pub buffer_fault_number : BufferFault → ℕ
buffer_fault_number ShortBuffer = 52

-- that of the part that refuses, and the sheet's own
abbrev pub refusal_number : Refusal → ℕ
refusal_number LongSheet = 54
refusal_number (Buffer f) = buffer_fault_number f
refusal_number (Line f) = line_fault_number f
refusal_number (Book f) = book_fault_number f
