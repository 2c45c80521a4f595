-- The numbers of the refusals of a line.
use Rattle.std.specs.Prelude.{ℕ}
use Rattle.kinds.specs.Faults.{key_fault_number}
use Rattle.figures.specs.declared.FigureFault.{FigureFault}
use Rattle.figures.specs.declared.FigureFault.TheVariants.{Unreadable as NoFigure, TooLarge as Large}
use Rattle.forms.specs.declared.fault.LineFault.{LineFault}
use Rattle.forms.specs.declared.fault.LineFault.TheVariants.{LongLine, Unreadable, TooLarge, Key}

-- the number that a customer sees
abbrev pub line_fault_number : LineFault → ℕ
line_fault_number LongLine = 53
line_fault_number Unreadable = 50
line_fault_number TooLarge = 51
line_fault_number (Key f) = key_fault_number f

-- what a figure's fault is to the line
abbrev pub of_figure : FigureFault → LineFault
of_figure NoFigure = Unreadable
of_figure Large = TooLarge
