use Rattle.std.proofs.Common.{◌≡◌, [], length, take, refl, rules, drop, arith}
use Rattle.std.proofs.lemmas.Grind.{common_steps}
use Rattle.std.specs.Io.KnownBytes.{Appends}
use Rattle.console.proofs.Sendings.{appends_none, written_more, written_kept, written_begins, written_all}
use Rattle.console.proofs.output.send_rest.Goals as goal
use Rattle.console.proofs.output.send_rest.Goals.{in-Ok, in-Err}

pub loop-init : goal.loop-init
loop-init g c = ([], refl, appends_none (g.W.Write.contents c.args.out.now))

pub returns-then-is_empty : goal.returns-then-is_empty
returns-then-is_empty g c =
    let none : length c.loop.rest.now ≡ 0 = search rules in
    written_all _ _ _ _ c.loop.invariant none

pub returns-in-Ok-eq0 : goal.returns-in-Ok-eq0
returns-in-Ok-eq0 g c =
    let wrote : Appends (g.W.Write.contents c.loop.out) (g.W.Write.contents c.write.new.self) (take c.in-Ok-eq0.field-0 c.loop.rest.now) = rw c.in-Ok-eq0.is at c.write.ensures.bytes in
    (refl, written_begins _ _ _ _ (written_more _ _ _ _ _ _ c.loop.invariant wrote))

pub returns-in-Err-2 : goal.returns-in-Err-2
returns-in-Err-2 g c = (refl, written_begins _ _ _ _ (written_kept _ _ _ _ _ c.loop.invariant c.in-Err-2.ensures.bytes))

pub loop-preserved : goal.loop-preserved
loop-preserved g c =
    elim c.match-write.branch [
      | in-Ok w ↦
          let rest : c.match-write.rest.now ≡ drop w.in-Ok.n c.loop.rest.now = grind (arith, common_steps) in
          rw rest (written_more _ _ _ _ _ _ c.loop.invariant w.in-Ok.ensures.bytes)
      | in-Err w ↦ rw w.rest-is (written_kept _ _ _ _ _ c.loop.invariant w.in-Err.ensures.bytes)
    ]

pub returns : goal.returns
returns g c = (refl, written_begins _ _ _ _ c.loop.invariant)
