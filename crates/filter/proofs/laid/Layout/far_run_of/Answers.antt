use Rattle.std.proofs.Common.{arith}
use Rattle.filter.proofs.Locatings.{none_ahead, own_there, stop_next}
use Rattle.filter.proofs.Sounds.{sound_of}
use Rattle.filter.proofs.laid.Layout.far_run_of.Goals as goal

pub after_runends-to-requires : goal.after_runends-to-requires
after_runends-to-requires c =
    let l = c.args.self.now in
    omega (arith, own_there _ _ _ (sound_of l) c.args.c.0 _ _ (omega (arith, l.few)) (omega arith) (none_ahead _ _ _ (sound_of l) c.args.c.0 _ c.start_of-from.ensures) c.from-own.result (cc))

pub returns-clause-to : goal.returns-clause-to
returns-clause-to c = stop_next _ _ _ (sound_of c.args.self.now) c.args.c.0 _ c.from-own.result _ c.start_of-from.ensures (cc) c.after_runends-to.ensures
