use Rattle.console.proofs.Readings.{consumes_more}
use Rattle.console.proofs.text.read_text.Goals as goal

pub returns-in_err-extend_from_slice-in-Ok-clause-in_order : goal.returns-in_err-extend_from_slice-in-Ok-clause-in_order
returns-in_err-extend_from_slice-in-Ok-clause-in_order g c = (_, consumes_more _ _ _ _ _ c.loop.invariant c.in-Ok.ensures.bytes.0)
