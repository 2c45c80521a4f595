use Rattle.std.proofs.Common.{ap, arith}
use mir.Val.{bool_byte}
use Rattle.filter.proofs.Locatings.{next_start, next_stop, next_empty, end_bound}
use Rattle.filter.proofs.Sounds.{sound_of}
use Rattle.filter.proofs.laid.Layout.run_of.Goals as goal
use Rattle.filter.proofs.laid.Layout.run_of.Goals.{then-occupied, else-occupied}

pub overflow_add-to : goal.overflow_add-to
overflow_add-to c =
    let l = c.args.self.now in
    omega (arith, l.few, end_bound _ _ _ (sound_of l) c.in-Some.next.end.0 c.in-Some.ensures.end.one)

pub returns-clause-from : goal.returns-clause-from
returns-clause-from c = next_start _ _ _ (sound_of c.args.self.now) c.args.c.0 _ _ c.in-Some.ensures

pub returns-clause-to : goal.returns-clause-to
returns-clause-to c =
    let l = c.args.self.now in
    elim c.if-occupied.branch [
      | then-occupied w ↦ omega (arith, ap (λ s. s.0) w.to-is, next_stop _ _ _ (sound_of l) c.args.c.0 _ _ c.in-Some.ensures (ap bool_byte w.if-occupied.ensures))
      | else-occupied w ↦ omega (arith, ap (λ s. s.0) w.to-is, next_empty _ _ _ (sound_of l) c.args.c.0 _ _ c.in-Some.ensures (ap bool_byte w.if-occupied.ensures))
    ]
