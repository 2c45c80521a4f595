use Rattle.std.proofs.Common.{◌*◌, arith}
use Rattle.filter.proofs.Locatings.{head_is, start_bound}
use Rattle.filter.proofs.Sounds.{sound_of}
use Rattle.filter.proofs.laid.Layout.head_of.Goals as goal

pub overflow_cast-result : goal.overflow_cast-result
overflow_cast-result c =
    let l = c.args.self.now in
    omega (arith, l.few, head_is _ _ _ (sound_of l) c.args.a, start_bound _ _ _ (sound_of l) (64 * c.args.a), c.offset.ensures)

pub overflow_add-result : goal.overflow_add-result
overflow_add-result c =
    let l = c.args.self.now in
    omega (arith, l.few, head_is _ _ _ (sound_of l) c.args.a, start_bound _ _ _ (sound_of l) (64 * c.args.a), c.offset.ensures)

pub returns : goal.returns
returns c =
    let l = c.args.self.now in
    omega (arith, head_is _ _ _ (sound_of l) c.args.a, c.offset.ensures)
