-- Which lines a sheet gives.
use Rattle.std.specs.Prelude.{◌≡◌, ℕ, ◌<◌, ◌≤◌, List, length, Ok, Err, Result}
use Rattle.figures.specs.Lines.{lines_of}
use Rattle.answers.specs.declared.fault.Refusal.TheVariants.{LongSheet}
use Rattle.answers.specs.declared.fault.SheetFault.{SheetFault}
use Rattle.figures.specs.Coming.{lines_left}
use Rattle.figures.specs.declared.lines.Lines.{Lines}

-- what is made of a sheet: all its lines are to come, or it is too long
abbrev pub SheetTaken : List ℕ → Result Lines SheetFault → Type 0
SheetTaken sheet (Ok s) = (length sheet ≤ 65535) × (lines_left s ≡ lines_of sheet)
SheetTaken sheet (Err e) = (65535 < length sheet) × (e ≡ record { line = 0; fault = LongSheet })
