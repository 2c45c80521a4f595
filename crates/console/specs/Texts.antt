-- What programs print.
use Rattle.std.specs.Prelude.{ℕ, ◌*◌, ◌-◌, ◌/◌, length, take, drop, replicate, flat_map, false, List, [], ◌∷◌, ◌++◌, codes}
use Rattle.std.specs.Fmt.{decimal, digits}
use Rattle.std.specs.List.{range_with_len}
use Rattle.filter.specs.Faults.{filter_fault_number}
use Rattle.filter.specs.declared.fault.FilterFault.{FilterFault}
use Rattle.console.specs.declared.fault.Fault.{Fault}
use Rattle.console.specs.declared.fault.Fault.TheVariants.{Memory, Stream, Arguments, Filter}
use Rattle.console.specs.declared.program.Program.{Program}

-- the line of a refusal, without its end
abbrev pub refusal_text : FilterFault → List ℕ
refusal_text f = codes "refused " ++ decimal (filter_fault_number f)

-- why a program stops, as it says on standard error
abbrev pub stop_text : Program → Fault → List ℕ
stop_text p Arguments = codes "usage: " ++ (p.name.now ++ (codes " " ++ p.arguments.now))
stop_text p Memory = p.name.now ++ codes ": out of memory"
stop_text p Stream = p.name.now ++ codes ": standard input or output fails"
stop_text p (Filter f) = p.name.now ++ codes ": refused"

-- a word: 16 digits, to the base 16
abbrev pub word_text : ℕ → List ℕ
word_text w = replicate (16 - length (digits 16 false w)) 48 ++ digits 16 false w

-- a block: its number and its words, a space before each
abbrev pub block_text : ℕ → List ℕ → List ℕ
block_text number ws = codes "block " ++ (decimal number ++ flat_map (λ w. 32 ∷ word_text w) ws)

-- the line of one block of words, where each block has that many
abbrev pub block_line : ℕ → List ℕ → ℕ → List ℕ
block_line size ws number = block_text number (take size (drop (number * size) ws)) ++ (10 ∷ [])

-- the lines of the whole blocks of words, in order
abbrev pub blocks_text : ℕ → List ℕ → List ℕ
blocks_text size ws = flat_map (block_line size ws) (range_with_len 0 (length ws / size))
