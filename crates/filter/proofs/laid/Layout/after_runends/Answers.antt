use Rattle.std.proofs.Common.{arith}
use Rattle.filter.proofs.Locatings.{end_bound}
use Rattle.filter.proofs.Sounds.{sound_of}
use Rattle.filter.proofs.laid.Layout.after_runends.Goals as goal

pub overflow_add-result : goal.overflow_add-result
overflow_add-result c =
    omega (arith, c.args.self.now.few, end_bound _ _ _ (sound_of c.args.self.now) c.in-Some.e.0 c.in-Some.ensures.one)
