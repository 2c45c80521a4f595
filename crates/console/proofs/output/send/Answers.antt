use Rattle.std.proofs.Common.{◌≡◌, ◌-◌, ◌≤◌, [], length, take, drop, length-drop, Ok, Err, refl, subst, arith, rules}
use Rattle.std.proofs.lemmas.List.{take_all}
use Rattle.std.specs.Io.KnownBytes.{Appends}
use Rattle.console.proofs.Sendings.{appends_none, appends_kept, begins_with, sent_behind, sent_kept}
use Rattle.console.proofs.output.send.Goals as goal

pub returns-then-is_empty : goal.returns-then-is_empty
returns-then-is_empty g c =
    let o = g.W.Write.contents c.args.out.now in
    let none : length c.args.text.now ≤ 0 = search rules in
    subst (Appends o o) (take_all 0 c.args.text.now none) (appends_none o)

pub returns-in-Ok : goal.returns-in-Ok
returns-in-Ok g c =
    let all : length c.args.text.now ≤ c.in-Ok.n = omega arith in
    subst (Appends (g.W.Write.contents c.args.out.now) (g.W.Write.contents c.write.new.self)) (take_all c.in-Ok.n c.args.text.now all) c.in-Ok.ensures.bytes

pub returns-in-Ok-eq0 : goal.returns-in-Ok-eq0
returns-in-Ok-eq0 g c =
    let wrote : Appends (g.W.Write.contents c.args.out.now) (g.W.Write.contents c.write.new.self) (take c.in-Ok-eq0.field-0 c.args.text.now) = rw c.in-Ok-eq0.is at c.write.ensures.bytes in
    (refl, (c.in-Ok-eq0.field-0, wrote))

pub returns-in_err-send_rest-in-Ok-2 : goal.returns-in_err-send_rest-in-Ok-2
returns-in_err-send_rest-in-Ok-2 g c =
    let text = c.args.text.now in
    let n = c.in-Ok.n in
    let rest : take (length text - n) (drop n text) ≡ drop n text = take_all _ _ (omega (arith, length-drop n text)) in
    let fault = c.in_err-send_rest-in-Ok-2.field-0.0 in
    let same : c.from_residual.result ≡ Err fault = search rules in
    rw same (sent_behind _ _ _ text _ n (Err fault) c.in-Ok.ensures.bytes rest c.in_err-send_rest-in-Ok-2.ensures)

pub returns-in_ok-send_rest-in-Ok-2 : goal.returns-in_ok-send_rest-in-Ok-2
returns-in_ok-send_rest-in-Ok-2 g c =
    let text = c.args.text.now in
    let n = c.in-Ok.n in
    let rest : take (length text - n) (drop n text) ≡ drop n text = take_all _ _ (omega (arith, length-drop n text)) in
    sent_behind _ _ _ text _ n (Ok tt) c.in-Ok.ensures.bytes rest c.in_ok-send_rest-in-Ok-2.ensures

pub returns-in_err-send_rest-in-Err : goal.returns-in_err-send_rest-in-Err
returns-in_err-send_rest-in-Err g c =
    let fault = c.in_err-send_rest-in-Err.field-0.0 in
    let same : c.from_residual-in_err-send_rest-in-Err.result ≡ Err fault = search rules in
    rw same (sent_kept _ _ _ c.args.text.now (Err fault) c.in-Err.ensures.bytes c.in_err-send_rest-in-Err.ensures)

pub returns-in_ok-send_rest-in-Err : goal.returns-in_ok-send_rest-in-Err
returns-in_ok-send_rest-in-Err g c = sent_kept _ _ _ c.args.text.now (Ok tt) c.in-Err.ensures.bytes c.in_ok-send_rest-in-Err.ensures

pub returns-in-Err-2 : goal.returns-in-Err-2
returns-in-Err-2 g c =
    let o = g.W.Write.contents c.args.out.now in
    (refl, begins_with o _ [] c.args.text.now c.args.text.now (appends_kept o o _ [] (appends_none o) c.in-Err-2.ensures.bytes) refl)
