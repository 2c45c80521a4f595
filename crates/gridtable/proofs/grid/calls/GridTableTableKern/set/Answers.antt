use Rattle.std.proofs.Common.{◌≡◌, ℕ, ◌+◌, get_or, set, is_none, sym, refl, ap, ◌∙◌, arith, w16, w32, SFits, to_z, of_z, rules}
use Rattle.std.specs.Int.{from_bool}
use Rattle.std.proofs.lemmas.Int.{to_z-of_z}
use Rattle.gridtable.specs.Grids.{in_square, pair_place, free_cell, value_of}
use Rattle.gridtable.proofs.Cells.{value_is, chosen}
use Rattle.gridtable.proofs.Squares.{found_below, held_few, held_or_room, one_more, written}
use Rattle.gridtable.proofs.grid.calls.GridTableTableKern.set.Goals as goal

pub value_at-requires : goal.value_at-requires
value_at-requires c =
    let table = c.args.self.now in
    found_below table.side table.cells.now c.args.key c.in_ok-place.place table.room (sym c.in_ok-place.ensures.ok_part ∙ c.place.ensures)

pub bounds-self-place : goal.bounds-self-place
bounds-self-place c =
    let table = c.args.self.now in
    found_below table.side table.cells.now c.args.key c.in_ok-place.place table.room (sym c.in_ok-place.ensures.ok_part ∙ c.place.ensures)

pub overflow_add-self : goal.overflow_add-self
overflow_add-self c =
    let table = c.args.self.now in
    let few = held_few table.side table.cells.now table.held table.small table.counted in
    search rules

pub invariant_of-self : goal.invariant_of-self
invariant_of-self c =
    let table = c.args.self.now in
    let cells = table.cells.now in
    let place = c.in_ok-place.place in
    let at = chosen (in_square table.side c.args.key) (pair_place table.side c.args.key) place (sym c.in_ok-place.ensures.ok_part ∙ c.place.ensures) in
    let f : SFits w32 c.from.result = search rules in
    let added : c.from-added.result ≡ from_bool (is_none c.value_at.result) = search rules in
    let t = written table.side cells table.room c.args.key at.0 table.held c.args.value place (table.held + c.from-added.result) (set cells place (to_z w32 (of_z w32 c.from.result)))
    (value_is c.args.value c.ranges.value) table.counted at.1 (ap (λ v. set cells place v) (to_z-of_z w32 c.from.result f ∙ c.from.ensures ∙ to_z-of_z w16 c.args.value c.ranges.value))
    (one_more table.held c.from-added.result (value_of (get_or cells place free_cell)) (added ∙ ap (λ o. from_bool (is_none o)) c.value_at.ensures)) in
    record { small = table.small; room = t.room; counted = t.counted }

pub returns : goal.returns
returns c =
    let table = c.args.self.now in
    let cells = table.cells.now in
    let place = c.in_ok-place.place in
    let at = chosen (in_square table.side c.args.key) (pair_place table.side c.args.key) place (sym c.in_ok-place.ensures.ok_part ∙ c.place.ensures) in
    let f : SFits w32 c.from.result = search rules in
    let added : c.from-added.result ≡ from_bool (is_none c.value_at.result) = search rules in
    let wrote = ap (λ v. set cells place v) (to_z-of_z w32 c.from.result f ∙ c.from.ensures ∙ to_z-of_z w16 c.args.value c.ranges.value) in
    let t = written table.side cells table.room c.args.key at.0 table.held c.args.value place (table.held + c.from-added.result) (set cells place (to_z w32 (of_z w32 c.from.result)))
    (value_is c.args.value c.ranges.value) table.counted at.1 wrote
    (one_more table.held c.from-added.result (value_of (get_or cells place free_cell)) (added ∙ ap (λ o. from_bool (is_none o)) c.value_at.ensures)) in
    record {
      frame = t.frame;
      lender = refl;
      beyond = t.beyond;
      done = (at.0, held_or_room table.side cells table.room c.args.key at.0, t.revalued);
      undone = λ e. let z : ◌≡◌ {A = ℕ} 0 1 = cc in absurd (omega arith);
      side = refl;
      cells = wrote ∙ ap (λ n. set cells n c.args.value) at.1;
    }
