use Rattle.std.proofs.Common.{◌≡◌, ℕ, set, Some, refl, ap, subst, arith}
use Rattle.gridtable.specs.Grids.{free_cell, HeldPlace}
use Rattle.gridtable.proofs.Squares.{taken, some_held, is_held}
use Rattle.gridtable.proofs.grid.calls.GridTableTableKern.remove.Goals as goal

pub overflow_sub-self : goal.overflow_sub-self
overflow_sub-self c =
    let table = c.args.self.now in
    let at : HeldPlace table.side table.cells.now c.args.key (Some c.in_ok-place.place) = subst (λ o. HeldPlace table.side table.cells.now c.args.key o) c.in_ok-place.ensures.ok_part c.held_place.ensures in
    some_held table.side table.cells.now table.room c.args.key c.in_ok-place.place at table.held table.counted

pub invariant_of-self : goal.invariant_of-self
invariant_of-self c =
    let table = c.args.self.now in
    let at : HeldPlace table.side table.cells.now c.args.key (Some c.in_ok-place.place) = subst (λ o. HeldPlace table.side table.cells.now c.args.key o) c.in_ok-place.ensures.ok_part c.held_place.ensures in
    let t = taken table.side table.cells.now table.room c.args.key c.in_ok-place.place at table.held table.counted in
    record { small = table.small; room = t.room; counted = t.counted }

pub returns : goal.returns
returns c =
    let table = c.args.self.now in
    let at : HeldPlace table.side table.cells.now c.args.key (Some c.in_ok-place.place) = subst (λ o. HeldPlace table.side table.cells.now c.args.key o) c.in_ok-place.ensures.ok_part c.held_place.ensures in
    let t = taken table.side table.cells.now table.room c.args.key c.in_ok-place.place at table.held table.counted in
    record {
      frame = t.frame;
      lender = refl;
      beyond = t.beyond;
      done = (is_held table.side table.cells.now table.room c.args.key c.in_ok-place.place at, t.revalued);
      undone = λ e. let z : ◌≡◌ {A = ℕ} 0 1 = cc in absurd (omega arith);
      side = refl;
      cells = ap (λ n. set table.cells.now n free_cell) at.1;
    }
