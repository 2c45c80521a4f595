use Rattle.std.proofs.Common.{drop, length, refl, ap₂, ◌∙◌, arith}
use Rattle.std.proofs.lemmas.List.{take_at}
use Rattle.batch.specs.Reports.{refused_from}
use Rattle.kernwords.proofs.report.report_of.Goals as goal

pub returns : goal.returns
returns c =
    let k = c.in_ok-kerns.ensures.performed in
    let l = c.in_ok-ligatures.ensures.performed in
    let batch = c.in_ok-batch.batch in
    let ks = c.book_after.new.calls in
    let ls = c.book_after-2.new.calls in
    let kerns = take_at ks (drop (length ks) batch.kerns.items) batch.kerns.len (omega (arith, c.as_mut_slice.ensures.len)) in
    let ligatures = take_at ls (drop (length ls) batch.ligatures.items) batch.ligatures.len (omega (arith, c.as_mut_slice-2.ensures.len)) in
    record {
      kerns = k.history;
      ligatures = l.history;
      lines = batch.lines.items;
      sorted = rw (k.asked, l.asked, c.as_mut_slice.ensures.value, c.as_mut_slice-2.ensures.value) c.in_ok-batch.ensures.sorted;
      kern = record { sized = c.in_ok-kerns.ensures.size; begun = k.begun };
      ligature = record { sized = refl; begun = rw (c.in_ok-ligatures.ensures.size) l.begun };
      ligature_size = rw (c.in_ok-ligatures.ensures.size) c.ligature_size.ensures;
      refused = rw (← k.answered, ← l.answered) (c.in_ok-refused.ensures ∙ ap₂ (refused_from 1 batch.lines.items) kerns ligatures);
    }
