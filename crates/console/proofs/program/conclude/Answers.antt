use Rattle.std.proofs.Common.{◌≡◌, [], ◌∷◌, ◌++◌, Ok, Err, IfErr, OnOk, rules}
use Rattle.std.specs.Io.Buffered.{writer_contents, writer_buffer}
use Rattle.std.specs.Io.KnownBytes.{Appends}
use Rattle.console.specs.declared.fault.Fault.TheVariants.{Stream, Filter}
use Rattle.console.specs.Texts.{refusal_text}
use Rattle.console.proofs.Sendings.{appends_none}
use Rattle.console.proofs.Served.{concluded}
use Rattle.console.proofs.program.conclude.Goals as goal
use Rattle.console.proofs.program.conclude.Goals.{in-Ok, in-Err-Filter+in_ok-send_refusal-in-Err-Filter}

pub returns : goal.returns
returns g c =
    let empty : OnOk c.map_err.result (writer_buffer c.flush.new.self ≡ []) = search rules in
    let stream : IfErr c.map_err.result (λ fault. fault ≡ Stream) = search rules in
    let contents = writer_contents g.W.Write.contents in
    elim c.match-done.branch [
      | in-Ok w ↦
          let last : Appends (contents c.args.out.now) (contents c.match-done.out) [] = rw w.out-is (appends_none (contents c.args.out.now)) in
          rw w.in-Ok.is (concluded g.W.Write.contents (Ok w.in-Ok.field-0) c.args.out.now c.match-done.out c.flush.new.self c.map_err.result tt last c.flush.ensures.bytes empty stream)
      | in-Err-Filter+in_ok-send_refusal-in-Err-Filter w ↦
          let done : c.args.done ≡ Err (Filter w.in-Err-Filter.fault) = search rules in
          let last : Appends (contents c.args.out.now) (contents c.match-done.out) (refusal_text w.in-Err-Filter.fault ++ (10 ∷ [])) = rw w.out-is (w.in_ok-send_refusal-in-Err-Filter.ensures) in
          rw done (concluded g.W.Write.contents (Err (Filter w.in-Err-Filter.fault)) c.args.out.now c.match-done.out c.flush.new.self c.map_err.result tt last c.flush.ensures.bytes empty stream)
    ]
