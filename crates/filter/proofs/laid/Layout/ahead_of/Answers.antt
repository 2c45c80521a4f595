use Rattle.std.proofs.Common.{◌*◌, ◌/◌, refl, arith}
use Rattle.filter.proofs.Locatings.{head_is, start_bound, below_few, ahead_enough, ahead_found}
use Rattle.filter.proofs.Sounds.{sound_of}
use Rattle.filter.proofs.laid.Layout.ahead_of.Goals as goal

pub overflow_cast-head : goal.overflow_cast-head
overflow_cast-head c =
    let l = c.args.self.now in
    let b = c.args.c.0 / 64 in
    omega (arith, l.few, head_is _ _ _ (sound_of l) b, start_bound _ _ _ (sound_of l) (64 * b), c.offset.ensures)

pub overflow_add-head : goal.overflow_add-head
overflow_add-head c =
    let l = c.args.self.now in
    let b = c.args.c.0 / 64 in
    omega (arith, l.few, head_is _ _ _ (sound_of l) b, start_bound _ _ _ (sound_of l) (64 * b), c.offset.ensures)

pub overflow_sub-result : goal.overflow_sub-result
overflow_sub-result c =
    let l = c.args.self.now in
    ahead_enough _ _ _ (sound_of l) c.args.c.0 c.occupied_below.result c.runs_ended.result c.max.result c.occupied_below.ensures c.runs_ended.ensures
    (omega (arith, c.max.ensures, c.offset.ensures))

pub returns-clause-ahead : goal.returns-clause-ahead
returns-clause-ahead c =
    let l = c.args.self.now in
    ahead_found _ _ _ (sound_of l) c.args.c.0 c.occupied_below.result c.runs_ended.result c.max.result c.occupied_below.ensures c.runs_ended.ensures
    (omega (arith, c.max.ensures, c.offset.ensures)) _ refl

pub returns-clause-few : goal.returns-clause-few
returns-clause-few c =
    let l = c.args.self.now in
    omega (arith, below_few _ _ _ (sound_of l) c.args.c.0, c.occupied_below.ensures)
