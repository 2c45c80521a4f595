-- Why a grid is a proper table: a proof, for the table's ghost member; nothing else has to be read here.
use Rattle.std.specs.Prelude.{◌≡◌, ℕ, ◌+◌, ◌*◌, ◌/◌, ◌%◌, ◌<◌, ◌≤◌, true, ◌⊎◌, List, length, ℤ, Some, None, Option, nat_lt, slice_index_or}
use Rattle.std.proofs.Common.{sym, ap, ◌∙◌, inl, inr, arith}
use Rattle.std.proofs.lemmas.Nat.{div-add-mod', div_below, mod_below, mul-le}
use Rattle.std.proofs.lemmas.List.FromFn.{length-map-range_with_len, get_or-map-range_with_len}
use Rattle.std.proofs.lemmas.List.{get_or_past}
use Rattle.std.proofs.lemmas.Bool.{cases_lt, lt-ltb, ltb-true, and_from, and_parts}
use Rattle.kinds.specs.declared.kern.Pair.{Pair}
use Rattle.tables.specs.declared.record.Record.{Record}
use Rattle.tables.specs.Rows.{Apart}
use Rattle.tables.specs.Meaning.{Proper}
use Rattle.tables.proofs.Counts.{count_fits}
use Rattle.tables.proofs.Options.{none_some, some_one}
use Rattle.gridtable.specs.Grids.{in_square, pair_at, free_cell, value_of, pair_row, grid_rows, grid_meaning}

pub length_rows : (side : ℕ) (cells : List ℤ) → length (grid_rows side cells) ≡ side * side
unfolding grid_rows
length_rows side cells = length-map-range_with_len (λ place. pair_row (pair_at side place) (value_of (slice_index_or cells place free_cell))) 0 (side * side)

pub row_at : (side : ℕ) (cells : List ℤ) (i : ℕ) → i < side * side → slice_index_or (grid_rows side cells) i None ≡ pair_row (pair_at side i) (value_of (slice_index_or cells i free_cell))
unfolding grid_rows
row_at side cells i h = get_or-map-range_with_len (λ place. pair_row (pair_at side place) (value_of (slice_index_or cells place free_cell))) 0 (side * side) i i None h (omega arith)

pub row_past : (side : ℕ) (cells : List ℤ) (i : ℕ) → side * side ≤ i → slice_index_or (grid_rows side cells) i None ≡ None
row_past side cells i h = get_or_past (grid_rows side cells) i None (omega (arith, length_rows side cells))

-- a row has the pair of its place
row_key : (p : Pair) (v : Option ℤ) (r : Record Pair ℤ) → pair_row p v ≡ Some r → r.key ≡ p
row_key p (Some v) r e = ap (λ x. x.key) (sym (some_one (record { key = p; value = v }) r e))
row_key p None r e = none_some r e

-- a place that holds a record is within the square, and the record is that of its pair
pub held_within : (side : ℕ) (cells : List ℤ) (i : ℕ) (r : Record Pair ℤ) → slice_index_or (grid_rows side cells) i None ≡ Some r → (i < side * side) × (r.key ≡ pair_at side i)
held_within side cells i r e = by_cases (cases_lt i (side * side))
  where
    by_cases : (i < side * side) ⊎ (side * side ≤ i) → (i < side * side) × (r.key ≡ pair_at side i)
    by_cases (inl h) = (h, row_key (pair_at side i) (value_of (slice_index_or cells i free_cell)) r (sym (row_at side cells i h) ∙ e))
    by_cases (inr h) = none_some r (sym (row_past side cells i h) ∙ e)

-- places with the same pair are one
pub one_place : (side i j : ℕ) → pair_at side i ≡ pair_at side j → i ≡ j
one_place side i j e =
    let l : i / side ≡ j / side = ap (λ p. p.left) e in
    let r : i % side ≡ j % side = ap (λ p. p.right) e in
    sym (div-add-mod' i side) ∙ ap (λ q. q * side + i % side) l ∙ ap (λ m. j / side * side + m) r ∙ div-add-mod' j side

pub grid_apart : (side : ℕ) (cells : List ℤ) → Apart (grid_rows side cells)
grid_apart side cells t =
    let p = (held_within side cells t.i t.r t.first).1 in
    let q = (held_within side cells t.j t.s t.second).1 in
    one_place side t.i t.j (sym p ∙ t.same ∙ q)

-- the pair of a place of the square is admitted
pub pair_within : (side i : ℕ) → i < side * side → in_square side (pair_at side i) ≡ true
pair_within side i h = by_cases (cases_lt 0 side)
  where
    by_cases : (0 < side) ⊎ (side ≤ 0) → in_square side (pair_at side i) ≡ true
    by_cases (inl some) = and_from _ _ (lt-ltb (i / side) side (div_below i side side some h)) (lt-ltb (i % side) side (mod_below i side some))
    by_cases (inr none) = absurd (omega (arith, mul-le side side 0 0 none none))

-- the left glyph of such a pair is small
pub row_column : (side i : ℕ) → side ≤ 1024 → i < side * side → i / side < 1024
row_column side i small h =
    let t = ltb-true (i / side) side (and_parts (nat_lt (i / side) side) (nat_lt (i % side) side) (pair_within side i h)).0 in
    omega arith

-- a square has few cells
pub few_cells : (side : ℕ) → side ≤ 1024 → side * side ≤ 1048576
few_cells side h = mul-le side side 1024 1024 h h

pub proper_grid : (side : ℕ) (cells : List ℤ) → side ≤ 1024 → Proper (grid_meaning side cells)
proper_grid side cells small =
    let l = length_rows side cells in
    let f = few_cells side small in
    record {
      once = grid_apart side cells;
      within = omega (arith, count_fits (grid_rows side cells));
      admitted = λ i r e. let t = held_within side cells i r e in ap (in_square side) t.1 ∙ pair_within side i t.0;
      few = omega arith;
    }
