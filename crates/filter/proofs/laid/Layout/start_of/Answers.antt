use Rattle.std.proofs.Common.{arith}
use Rattle.filter.proofs.Locatings.{ahead_there, start_found}
use Rattle.filter.proofs.Sounds.{sound_of}
use Rattle.filter.proofs.laid.Layout.start_of.Goals as goal

pub after_runends-requires : goal.after_runends-requires
after_runends-requires c =
    let l = c.args.self.now in
    ahead_there _ _ _ (sound_of l) c.args.c.0 _ _ (omega (arith, l.few)) (omega arith) c.ahead_of-ahead.ensures.ahead

pub returns : goal.returns
returns c = start_found _ _ _ (sound_of c.args.self.now) c.args.c.0 _ _ _ c.ahead_of-ahead.ensures.ahead c.after_runends.ensures
