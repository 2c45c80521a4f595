use Rattle.std.proofs.Common.{arith}
use Rattle.filter.proofs.Locatings.{own_there, stop_found}
use Rattle.filter.proofs.Sounds.{sound_of}
use Rattle.filter.proofs.laid.Layout.stop_of.Goals as goal

pub after_runends-requires : goal.after_runends-requires
after_runends-requires c =
    let l = c.args.self.now in
    own_there _ _ _ (sound_of l) c.args.c.0 _ _ (omega (arith, l.few)) (omega arith) c.ahead_of-ahead.ensures.ahead _ (cc)

pub returns : goal.returns
returns c = stop_found _ _ _ (sound_of c.args.self.now) c.args.c.0 _ _ _ _ c.ahead_of-ahead.ensures.ahead (cc) c.after_runends.ensures
