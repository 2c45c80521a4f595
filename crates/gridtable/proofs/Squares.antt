-- What the calls on a grid make of its meaning.
use Rattle.std.proofs.Common.{◌≡◌, ℕ, ◌+◌, ◌-◌, ◌*◌, ◌%◌, ◌<◌, ◌≤◌, Bool, true, false, cond, ◌&&◌, ltb, leb, ◌⊎◌, List, length, get_or, drop, set, replicate, ℤ, is_some, is_none, Some, None, Option, sym, refl, ap, ◌∙◌, subst, inl, inr, arith}
use Rattle.std.proofs.lemmas.Nat.{mul-add-lt, div-mul-add, mod-mul-add}
use Rattle.std.proofs.lemmas.List.{length-set, length-append, length-replicate, length-drop, get_or-set_same, get_or-set_other, get_or_append_left, get_or-replicate, ext_get_or, drop-set-lt}
use Rattle.std.proofs.lemmas.Bool.{cases_eq, both_ways, ltb-true, leb-true, and_parts}
use Rattle.std.specs.Str.{bytes_eq}
use Rattle.std.specs.Bool.{then_some}
use Rattle.std.specs.Int.{from_bool}
use Rattle.kinds.specs.declared.kern.Pair.{Pair}
use Rattle.kinds.specs.Bytes.{pair_bytes}
use Rattle.kinds.specs.Glyphs.{pair_bytes_one}
use Rattle.tables.specs.declared.record.Record.{Record}
use Rattle.tables.specs.Rows.{lookup, record_count}
use Rattle.tables.specs.Meaning.{SameFrame, Revalued}
use Rattle.tables.proofs.Options.{Of, record_value, none_some}
use Rattle.tables.proofs.Counts.{count_fits, count_free, count_fill, count_refill, count_clear}
use Rattle.tables.proofs.Lookups.{Only, lookup_only, lookup_absent}
use Rattle.tables.proofs.Changes.{revalued_set}
use Rattle.gridtable.specs.Grids.{side_of, in_square, pair_place, pair_at, free_cell, value_of, pair_row, grid_rows, grid_meaning, empty_grid, emptied, beyond_grid, HeldPlace}
use Rattle.gridtable.specs.Propers.{length_rows, row_at, held_within, one_place, pair_within, few_cells, grid_apart}
use Rattle.gridtable.proofs.Cells.{chosen, not_chosen}

-- few are held
pub held_few : (side : ℕ) (cells : List ℤ) (held : ℕ) → side ≤ 1024 → held ≡ record_count (grid_rows side cells) → held ≤ 1048576
held_few side cells held small e =
    let f = few_cells side small in
    let c = count_fits (grid_rows side cells) in
    omega (arith, length_rows side cells)

-- the side that a grid takes
pub side_small : (n lent : ℕ) → side_of n lent ≤ 1024
side_small n lent = by_cases (leb n 1024 && leb (n * n) lent) refl
  where
    by_cases : (b : Bool) → (leb n 1024 && leb (n * n) lent) ≡ b → cond b n 0 ≤ 1024
    by_cases true e = leb-true n 1024 (and_parts (leb n 1024) (leb (n * n) lent) e).0
    by_cases false e = omega arith

pub side_room : (n lent : ℕ) → side_of n lent * side_of n lent ≤ lent
side_room n lent = by_cases (leb n 1024 && leb (n * n) lent) refl
  where
    by_cases : (b : Bool) → (leb n 1024 && leb (n * n) lent) ≡ b → cond b n 0 * cond b n 0 ≤ lent
    by_cases true e = leb-true (n * n) lent (and_parts (leb n 1024) (leb (n * n) lent) e).1
    by_cases false e = omega arith

-- the place of a pair that is admitted
pub place_below : (side : ℕ) (p : Pair) → in_square side p ≡ true → pair_place side p < side * side
place_below side p h =
    let t = and_parts (ltb p.left side) (ltb p.right side) h in
    mul-add-lt p.left side p.right side (ltb-true p.left side t.0) (ltb-true p.right side t.1)

pub pair_back : (side : ℕ) (p : Pair) → in_square side p ≡ true → pair_at side (pair_place side p) ≡ p
pair_back side p h =
    let t = and_parts (ltb p.left side) (ltb p.right side) h in
    let r = ltb-true p.right side t.1 in
    ap (λ x. record { left = x; right = (p.left * side + p.right) % side }) (div-mul-add p.left side p.right r)
    ∙ ap (λ y. record { left = p.left; right = y }) (mod-mul-add p.left side p.right r)

row_of_cell : (p : Pair) (v : Option ℤ) → Of (pair_row p v) p
row_of_cell p (Some v) r e = sym (ap (λ o. elim o [ Some x ↦ x.key | None ↦ p ]) e)
row_of_cell p None r e = none_some r e

row_value : (p : Pair) (v : Option ℤ) → record_value (pair_row p v) ≡ v
row_value p (Some v) = refl
row_value p None = refl

module _ (side : ℕ) (cells : List ℤ) (p : Pair) (h : in_square side p ≡ true) where
  only_pair : Only (grid_rows side cells) (pair_place side p) p
  only_pair i r e own = one_place side i (pair_place side p) (sym (held_within side cells i r e).1 ∙ own ∙ sym (pair_back side p h))

  pub row_of_pair : get_or (grid_rows side cells) (pair_place side p) None ≡ pair_row p (value_of (get_or cells (pair_place side p) free_cell))
  row_of_pair = row_at side cells (pair_place side p) (place_below side p h) ∙ ap (λ q. pair_row q (value_of (get_or cells (pair_place side p) free_cell))) (pair_back side p h)

  of_pair : Of (get_or (grid_rows side cells) (pair_place side p) None) p
  of_pair = subst (λ o. Of o p) (sym row_of_pair) (row_of_cell p (value_of (get_or cells (pair_place side p) free_cell)))

  -- the value of a pair is that of its cell
  pub look_pair : lookup pair_bytes (grid_rows side cells) p ≡ value_of (get_or cells (pair_place side p) free_cell)
  look_pair =
      lookup_only pair_bytes pair_bytes_one (grid_rows side cells) (pair_place side p) p only_pair of_pair
      ∙ ap record_value row_of_pair ∙ row_value p (value_of (get_or cells (pair_place side p) free_cell))

-- a pair that is not admitted has none
pub look_foreign : (side : ℕ) (cells : List ℤ) (p : Pair) → in_square side p ≡ false → lookup pair_bytes (grid_rows side cells) p ≡ None
look_foreign side cells p h =
    lookup_absent pair_bytes pair_bytes_one (grid_rows side cells) p
    (λ i r e own. let t = held_within side cells i r e in both_ways (in_square side p) h (ap (in_square side) (sym own ∙ t.1) ∙ pair_within side i t.0))

-- one cell written
pub rows_write : (side : ℕ) (cells : List ℤ) (at : ℕ) (v : ℤ) → side * side ≤ length cells → at < side * side → grid_rows side (set cells at v) ≡ set (grid_rows side cells) at (pair_row (pair_at side at) (value_of v))
rows_write side cells at v room b =
    ext_get_or None (grid_rows side (set cells at v)) (set (grid_rows side cells) at (pair_row (pair_at side at) (value_of v)))
    (length_rows side (set cells at v) ∙ sym (length-set (grid_rows side cells) at (pair_row (pair_at side at) (value_of v)) ∙ length_rows side cells))
    (λ i k. by_cases i (omega (arith, length_rows side (set cells at v))) (cases_eq i at))
  where
    by_cases : (i : ℕ) → i < side * side → (i ≡ at) ⊎ (i ≡ at → ⊥) → get_or (grid_rows side (set cells at v)) i None ≡ get_or (set (grid_rows side cells) at (pair_row (pair_at side at) (value_of v))) i None
    by_cases i k (inl e) =
        ap (λ n. get_or (grid_rows side (set cells at v)) n None) e ∙ row_at side (set cells at v) at b ∙ ap (λ c. pair_row (pair_at side at) (value_of c)) (get_or-set_same cells at v free_cell (omega arith))
        ∙ sym (ap (λ n. get_or (set (grid_rows side cells) at (pair_row (pair_at side at) (value_of v))) n None) e ∙ get_or-set_same (grid_rows side cells) at (pair_row (pair_at side at) (value_of v)) None (omega (arith, length_rows side cells)))
    by_cases i k (inr ne) =
        row_at side (set cells at v) i k ∙ ap (λ c. pair_row (pair_at side i) (value_of c)) (get_or-set_other cells at i v free_cell ne)
        ∙ sym (get_or-set_other (grid_rows side cells) at i (pair_row (pair_at side at) (value_of v)) None ne ∙ row_at side cells i k)

-- all cells freed
pub rows_emptied : (side : ℕ) (cells : List ℤ) → grid_rows side (emptied side cells) ≡ replicate (side * side) None
rows_emptied side cells =
    ext_get_or None (grid_rows side (emptied side cells)) (replicate (side * side) None) (length_rows side (emptied side cells) ∙ sym (length-replicate (side * side) None))
    (λ i k. by_place i (omega (arith, length_rows side (emptied side cells))))
  where
    by_place : (i : ℕ) → i < side * side → get_or (grid_rows side (emptied side cells)) i None ≡ get_or (replicate (side * side) None) i None
    by_place i k =
        row_at side (emptied side cells) i k
        ∙ ap (λ c. pair_row (pair_at side i) (value_of c)) (get_or_append_left (replicate (side * side) free_cell) (drop (side * side) cells) free_cell i (omega (arith, length-replicate (side * side) free_cell)) ∙ get_or-replicate (side * side) i free_cell free_cell k)
        ∙ sym (get_or-replicate (side * side) i None None k)

pub empty_grid_means : (side : ℕ) (cells : List ℤ) → grid_meaning side (emptied side cells) ≡ empty_grid side
empty_grid_means side cells = ap (λ rows. record { rows = rows; admits = in_square side; capacity = side * side }) (rows_emptied side cells)

pub none_counted : (side : ℕ) (cells : List ℤ) → 0 ≡ record_count (grid_rows side (emptied side cells))
none_counted side cells = sym (ap record_count (rows_emptied side cells) ∙ count_free (Record Pair ℤ) (side * side))

pub length_emptied : (side : ℕ) (cells : List ℤ) → side * side ≤ length cells → length (emptied side cells) ≡ length cells
length_emptied side cells h = simp (length-append, length-replicate, length-drop) (omega arith)

-- a grid that begins
pub record Begun (n : ℕ) (lent : List ℤ) (side : ℕ) (cells : List ℤ) : Type 0 where
  pub small : side ≤ 1024
  pub room : side * side ≤ length cells
  pub counted : 0 ≡ record_count (grid_rows side cells)
  pub empty : grid_meaning side cells ≡ empty_grid (side_of n (length lent))
  pub freed_cells : cells ≡ emptied (side_of n (length lent)) lent

pub begun : (n : ℕ) (lent : List ℤ) (side : ℕ) (cells : List ℤ) → side ≡ side_of n (length lent) → cells ≡ emptied side lent → Begun n lent side cells
begun n lent side cells s e = subst (λ l. Begun n lent side l) (sym e) (subst (λ m. Begun n lent m (emptied m lent)) (sym s) start)
  where
    start : Begun n lent (side_of n (length lent)) (emptied (side_of n (length lent)) lent)
    start =
        let r = side_room n (length lent) in
        record {
          small = side_small n (length lent);
          room = subst (λ m. side_of n (length lent) * side_of n (length lent) ≤ m) (sym (length_emptied (side_of n (length lent)) lent r)) r;
          counted = none_counted (side_of n (length lent)) lent;
          empty = empty_grid_means (side_of n (length lent)) lent;
          freed_cells = refl;
        }

-- a cell with a value
pub a_value : {A : Type 0} (o : Option A) → is_some o ≡ true → (x : A) × (o ≡ Some x)
a_value (Some x) e = (x, refl)
a_value None e = absurd (both_ways false refl e)

-- one more is held where the cell was free
pub one_more : {A : Type 0} (held added : ℕ) (o : Option A) → added ≡ from_bool (is_none o) → held + added ≡ cond (is_some o) held (held + 1)
one_more held added (Some x) e = let none : added ≡ 0 = e in omega arith
one_more held added None e = let one : added ≡ 1 = e in omega arith

-- what a call has made of a grid
pub record Changed (side held' : ℕ) (cells cells' : List ℤ) (p : Pair) (w : Option ℤ) : Type 0 where
  pub room : side * side ≤ length cells'
  pub counted : held' ≡ record_count (grid_rows side cells')
  pub frame : SameFrame (grid_meaning side cells) (grid_meaning side cells')
  pub beyond : beyond_grid side cells' ≡ beyond_grid side cells
  pub revalued : Revalued pair_bytes (grid_meaning side cells) (grid_meaning side cells') p w

module _ (side : ℕ) (cells : List ℤ) (room : side * side ≤ length cells) (p : Pair) (h : in_square side p ≡ true) where
  -- whether the pair is held, or there is room for it
  pub held_or_room : (is_some (lookup pair_bytes (grid_rows side cells) p) ≡ true) ⊎ (record_count (grid_rows side cells) < side * side)
  held_or_room = by_cases (value_of (get_or cells (pair_place side p) free_cell)) refl
    where
      by_cases : (o : Option ℤ) → value_of (get_or cells (pair_place side p) free_cell) ≡ o → (is_some (lookup pair_bytes (grid_rows side cells) p) ≡ true) ⊎ (record_count (grid_rows side cells) < side * side)
      by_cases (Some v) e = inl (ap is_some (look_pair side cells p h ∙ e))
      by_cases None e =
          let b = place_below side p h in
          let l = length_rows side cells in
          let c = count_fill (grid_rows side cells) (pair_place side p) (record { key = p; value = free_cell }) (omega arith) (row_of_pair side cells p h ∙ ap (pair_row p) e) in
          let f = count_fits (set (grid_rows side cells) (pair_place side p) (Some (record { key = p; value = free_cell }))) in
          let n = length-set (grid_rows side cells) (pair_place side p) (Some (record { key = p; value = free_cell })) in
          inr (omega arith)

  changed : (v : ℤ) (held' : ℕ) → held' ≡ record_count (set (grid_rows side cells) (pair_place side p) (pair_row p (value_of v))) → Changed side held' cells (set cells (pair_place side p) v) p (value_of v)
  changed v held' c =
      let b = place_below side p h in
      let l = length_rows side cells in
      let n = length-set cells (pair_place side p) v in
      let eq : grid_rows side (set cells (pair_place side p) v) ≡ set (grid_rows side cells) (pair_place side p) (pair_row p (value_of v))
      = rows_write side cells (pair_place side p) v room b ∙ ap (λ q. set (grid_rows side cells) (pair_place side p) (pair_row q (value_of v))) (pair_back side p h) in
      record {
        room = omega arith;
        counted = c ∙ ap record_count (sym eq);
        frame = record { admits = refl; capacity = refl; places = length_rows side (set cells (pair_place side p) v) ∙ sym l };
        beyond = drop-set-lt (side * side) cells (pair_place side p) v b;
        revalued = λ q. ap (λ rows. lookup pair_bytes rows q) eq
            ∙ revalued_set (grid_rows side cells) (pair_place side p) p (pair_row p (value_of v)) (omega arith) (only_pair side cells p h) (of_pair side cells p h) (row_of_cell p (value_of v)) pair_bytes pair_bytes_one (grid_apart side cells) q
            ∙ ap (λ w. cond (bytes_eq (pair_bytes p) (pair_bytes q)) w (lookup pair_bytes (grid_rows side cells) q)) (row_value p (value_of v));
      }

  -- a value written, where the table holds one more if the cell was free
  pub written : (held : ℕ) (v : ℤ) (at held' : ℕ) (cells' : List ℤ) → value_of v ≡ Some v → held ≡ record_count (grid_rows side cells) → at ≡ pair_place side p → cells' ≡ set cells at v → held' ≡ cond (is_some (value_of (get_or cells at free_cell))) held (held + 1)
      → Changed side held' cells cells' p (Some v)
  written held v at held' cells' is old place e f =
      subst (λ l. Changed side held' cells l p (Some v)) (sym (e ∙ ap (λ n. set cells n v) place))
      (subst (λ w. Changed side held' cells (set cells (pair_place side p) v) p w) is
      (changed v held' (f ∙ ap (λ n. cond (is_some (value_of (get_or cells n free_cell))) held (held + 1)) place ∙ counts (value_of (get_or cells (pair_place side p) free_cell)) refl ∙ ap (λ w. record_count (set (grid_rows side cells) (pair_place side p) (pair_row p w))) (sym is))))
    where
      inside : pair_place side p < length (grid_rows side cells)
      inside = let b = place_below side p h in omega (arith, length_rows side cells)

      counts : (o : Option ℤ) → value_of (get_or cells (pair_place side p) free_cell) ≡ o → cond (is_some o) held (held + 1) ≡ record_count (set (grid_rows side cells) (pair_place side p) (Some (record { key = p; value = v })))
      counts (Some x) z = old ∙ sym (count_refill (grid_rows side cells) (pair_place side p) (record { key = p; value = v }) (record { key = p; value = x }) inside (row_of_pair side cells p h ∙ ap (pair_row p) z))
      counts None z = ap (λ n. n + 1) old ∙ sym (count_fill (grid_rows side cells) (pair_place side p) (record { key = p; value = v }) inside (row_of_pair side cells p h ∙ ap (pair_row p) z))

-- a pair that is held, as the calls find it
module _ (side : ℕ) (cells : List ℤ) (room : side * side ≤ length cells) (p : Pair) (at : ℕ) (here : HeldPlace side cells p (Some at)) where
  held_row : (x : ℤ) × (get_or (grid_rows side cells) (pair_place side p) None ≡ Some (record { key = p; value = x }))
  held_row =
      let v = a_value (value_of (get_or cells at free_cell)) here.2 in
      (v.0, row_of_pair side cells p here.0 ∙ ap (pair_row p) (ap (λ n. value_of (get_or cells n free_cell)) (sym here.1) ∙ v.1))

  -- its cell is one of the grid's
  pub taken_below : at < length cells
  taken_below = let b = place_below side p here.0 in omega (arith, here.1)

  held_clear : record_count (set (grid_rows side cells) (pair_place side p) None) + 1 ≡ record_count (grid_rows side cells)
  held_clear =
      let b = place_below side p here.0 in
      let r = held_row in
      count_clear (grid_rows side cells) (pair_place side p) (record { key = p; value = r.0 }) (omega (arith, length_rows side cells)) r.1

  pub some_held : (held : ℕ) → held ≡ record_count (grid_rows side cells) → 0 < held
  some_held held old = let c = held_clear in omega arith

  pub is_held : is_some (lookup pair_bytes (grid_rows side cells) p) ≡ true
  is_held = ap is_some (look_pair side cells p here.0 ∙ ap (λ n. value_of (get_or cells n free_cell)) (sym here.1)) ∙ here.2

  -- its cell freed
  pub taken : (held : ℕ) → held ≡ record_count (grid_rows side cells) → Changed side (held - 1) cells (set cells at free_cell) p None
  taken held old =
      let c = held_clear in
      subst (λ n. Changed side (held - 1) cells (set cells n free_cell) p None) (sym here.1) (changed side cells room p here.0 free_cell (held - 1) (omega arith))

-- places as the calls find them
module _ (side : ℕ) (cells : List ℤ) (p : Pair) where
  pub found_below : (place : ℕ) → side * side ≤ length cells → Some place ≡ cond (in_square side p) (Some (pair_place side p)) None → place < length cells
  found_below place room e = let t = chosen (in_square side p) (pair_place side p) place e in let b = place_below side p t.0 in omega (arith, t.1)

  pub found_value : (place : ℕ) (o : Option ℤ) → Some place ≡ cond (in_square side p) (Some (pair_place side p)) None → o ≡ value_of (get_or cells place free_cell) → o ≡ lookup pair_bytes (grid_rows side cells) p
  found_value place o e v =
      let t = chosen (in_square side p) (pair_place side p) place e in
      v ∙ ap (λ n. value_of (get_or cells n free_cell)) t.1 ∙ sym (look_pair side cells p t.0)

  pub found_held : (place : ℕ) (o : Option ℤ) → Some place ≡ cond (in_square side p) (Some (pair_place side p)) None → o ≡ value_of (get_or cells place free_cell) → HeldPlace side cells p (then_some (is_some o) place)
  found_held place (Some x) e v = let t = chosen (in_square side p) (pair_place side p) place e in (t.0, t.1, ap is_some (sym v))
  found_held place None e v = sym (found_value place None e v)

  pub missed_value : None ≡ cond (in_square side p) (Some (pair_place side p)) None → lookup pair_bytes (grid_rows side cells) p ≡ None
  missed_value e = look_foreign side cells p (not_chosen (in_square side p) (pair_place side p) e)
