use Rattle.std.proofs.Common.{arith}
use Rattle.book.specs.Reached.{state}
use Rattle.book.proofs.Holding.{steady_then}
use Rattle.replay.proofs.Going.{going_on, going_all}
use Rattle.replay.proofs.replaying.replay.Goals as goal

pub loop-call-preserved : goal.loop-call-preserved
loop-call-preserved g c =
    let at = state g.X.Table.meaning g.P.Fingerprint.number in
    let start = at c.args.book.now in
    let r = c.perform.ensures in
    let inv = c.loop-call.invariant in
    record {
      sound = r.sound;
      steady = steady_then _ _ _ inv.steady r.steady;
      going = going_on g.K.Kind.bytes start c.args.calls.now (at c.loop-call.book) c.loop-call.calls c.loop-call.call-index inv.going (at c.perform.new.book) c.call-item.result c.perform.result
          (omega (arith, c.loop-call-test.true)) (r.law start inv.going.history inv.going.reached);
    }

pub returns-clause-law : goal.returns-clause-law
returns-clause-law g c =
    let at = state g.X.Table.meaning g.P.Fingerprint.number in
    going_all g.K.Kind.bytes (at c.args.book.now) c.args.calls.now (at c.loop-call.book) c.loop-call.calls c.loop-call.call-index c.loop-call.invariant.going (omega (arith, c.loop-call-test.false))
