-- A table over a square of cells, one for each pair of glyphs below the side of the square.
use Rattle.std.specs.Prelude.{◌≡◌, ℕ, ◌+◌, ◌*◌, ◌/◌, ◌%◌, Bool, true, cond, ◌&&◌, List, ◌++◌, map, drop, replicate, ℤ, pos, negsuc, is_some, Some, None, Option, int_le, nat_le, nat_lt, Ok, Err, Result, slice_index_or, slice_set}
use Rattle.std.specs.List.{range_with_len}
use Rattle.kinds.specs.declared.kern.Pair.{Pair}
use Rattle.kinds.specs.Bytes.{pair_bytes}
use Rattle.tables.specs.declared.record.Record.{Record}
use Rattle.tables.specs.Rows.{lookup}
use Rattle.tables.specs.Meaning.{Meaning}
use Rattle.tables.specs.declared.fault.TableFault.{TableFault}

-- the side of a square: the one that is asked for, or none where it is above 1,024 or there are not cells enough
abbrev pub side_of : ℕ → ℕ → ℕ
side_of n lent = cond (nat_le n 1024 && nat_le (n * n) lent) n 0

-- whether both glyphs of a pair are below the side
abbrev pub in_square : ℕ → Pair → Bool
in_square side p = nat_lt p.left side && nat_lt p.right side

-- the place of a pair, and the pair of a place
abbrev pub pair_place : ℕ → Pair → ℕ
pair_place side p = p.left * side + p.right

abbrev pub pair_at : ℕ → ℕ → Pair
pair_at side place = record { left = place / side; right = place % side }

-- what is written into a cell to free it
abbrev pub free_cell : ℤ
free_cell = pos 32768

-- the value in a cell: a number of 16 bits with its sign; a cell with any other number is free
abbrev pub value_of : ℤ → Option ℤ
value_of cell = cond (int_le (negsuc 32767) cell && int_le cell (pos 32767)) (Some cell) None

-- the row of a pair with that value
abbrev pub pair_row : Pair → Option ℤ → Option (Record Pair ℤ)
pair_row p (Some v) = Some (record { key = p; value = v })
pair_row p None = None

-- the places: one for each pair
unfoldable pub grid_rows : ℕ → List ℤ → List (Option (Record Pair ℤ))
grid_rows side cells = map (λ place. pair_row (pair_at side place) (value_of (slice_index_or cells place free_cell))) (range_with_len 0 (side * side))

-- what the table means
abbrev pub grid_meaning : ℕ → List ℤ → Meaning Pair ℤ
grid_meaning side cells = record { rows = grid_rows side cells; admits = in_square side; capacity = side * side }

-- the table that holds nothing
abbrev pub empty_grid : ℕ → Meaning Pair ℤ
empty_grid side = record { rows = replicate (side * side) None; admits = in_square side; capacity = side * side }

-- the cells with those of the square freed
abbrev pub emptied : ℕ → List ℤ → List ℤ
emptied side cells = replicate (side * side) free_cell ++ drop (side * side) cells

-- the cells past those of the square
abbrev pub beyond_grid : ℕ → List ℤ → List ℤ
beyond_grid side cells = drop (side * side) cells

-- where a pair is held: at its place, whose cell has a value, or nowhere
abbrev pub HeldPlace : ℕ → List ℤ → Pair → Option ℕ → Type 0
HeldPlace side cells p (Some place) = (in_square side p ≡ true) × (place ≡ pair_place side p) × (is_some (value_of (slice_index_or cells place free_cell)) ≡ true)
HeldPlace side cells p None = lookup pair_bytes (grid_rows side cells) p ≡ None

-- The cells after a call that writes a number for a pair: the cell of the pair holds it, and every other cell what it held. A refusal writes no cell.
abbrev pub cells_after : ℕ → List ℤ → Pair → ℤ → Result (Unit {0}) TableFault → List ℤ
cells_after side cells p number (Ok done) = slice_set cells (pair_place side p) number
cells_after side cells p number (Err fault) = cells
