use Rattle.std.proofs.Common.{◌∙◌}
use Rattle.filter.proofs.Slotting.{free_shows, used_shows}
use Rattle.filter.proofs.Sounds.{sound_of}
use Rattle.filter.proofs.laid.Layout.slot.Goals as goal

pub returns-in_err-c : goal.returns-in_err-c
returns-in_err-c c =
    let l = c.args.self.now in
    c.from_residual.ensures ∙ free_shows _ _ _ (sound_of l) c.args.s.0 c.in_err-c.ensures

pub returns : goal.returns
returns c =
    let l = c.args.self.now in
    used_shows _ _ _ (sound_of l) c.args.s.0 c.in_ok-c.c c.remainder.result c.in_ok-c.ensures c.remainder.ensures
