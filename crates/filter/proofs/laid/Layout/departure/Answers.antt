use Rattle.std.proofs.Common.{◌≡◌, ◌+◌, ◌-◌, ◌&&◌, eqb, ltb, refl, sym, ap, ap₂, ◌∙◌, arith, rules}
use Rattle.layout.specs.Load.{start}
use Rattle.filter.specs.Arrivals.{Departs}
use Rattle.filter.proofs.Edited.{departs, gone_room}
use Rattle.filter.proofs.Sounds.{sound_of, placed_last, idle_past_placed}
use Rattle.filter.specs.Layouts.{bits_of, entries, many_of}
use Rattle.filter.proofs.laid.Layout.departure.Goals as goal
use Rattle.filter.proofs.laid.Layout.departure.Goals.{Joined-place}

pub first_idle-idle-requires : goal.first_idle-idle-requires
first_idle-idle-requires c =
    let m = many_of c.args.self.now in
    let w = c.in_ok-place.ensures in
    record {
      run = omega (arith, ap m w.its_quotient, w.in_run.from, w.in_run.below);
      stop = w.stops ∙ ap₂ ◌+◌ (w.starts ∙ sym (ap (start m) w.its_quotient)) (sym (ap m w.its_quotient));
      slots = omega (arith, placed_last c.args.self.now c.args.fingerprint _ _ _ _ w);
    }

-- the entry that was found goes
goes : (c : Joined-place) → Departs (bits_of c.args.self.now) c.args.self.now.count (entries c.args.self.now) c.args.fingerprint
    c.in_ok-place.place.quotient.0 c.in_ok-place.place.at.0 (c.first_idle-idle.result.0 - 1) c.if-place.result (eqb (c.in_ok-place.place.from.0 + 1) c.in_ok-place.place.to.0)
goes c =
    let l = c.args.self.now in
    let x = c.in_ok-place.place in
    let follows : c.if-place.result ≡ (ltb x.from.0 x.at.0 && eqb (x.at.0 + 1) x.to.0) = search rules in
    departs _ _ _ (sound_of l) c.args.fingerprint x.quotient.0 x.from.0 x.to.0 x.at.0 c.first_idle-idle.result.0 _ _ c.in_ok-place.ensures
    (idle_past_placed l c.args.fingerprint _ _ _ _ _ c.in_ok-place.ensures c.first_idle-idle.ensures.idle) c.first_idle-idle.ensures.bound follows refl

pub invariant_of-result : goal.invariant_of-result
invariant_of-result c =
    let l = c.args.self.now in
    record { order = gone_room _ _ _ (sound_of l) c.args.fingerprint _ _ _ _ _ (goes c); some = λ e. search rules }

pub returns : goal.returns
returns c = goes c.before
