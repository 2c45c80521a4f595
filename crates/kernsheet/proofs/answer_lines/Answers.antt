use Rattle.std.proofs.Common.{◌≡◌, ◌≤◌, ◌+◌, ◌-◌, drop, ℕ, length, ap, ◌∙◌, sym, ⊎_elim, arith}
use Rattle.std.specs.Iterator.Adapters.{zip_first, zip_second}
use Rattle.std.specs.declared.iter.Zip.{Zip}
use Rattle.std.specs.declared.ops.RangeFrom.{RangeFrom}
use Rattle.figures.specs.Coming.{lines_left}
use Rattle.figures.specs.declared.lines.Lines.{Lines}
use Rattle.book.specs.Reached.{state}
use Rattle.sheet.specs.Doing.{whole_book, state_at}
use Rattle.kernsheet.proofs.Pages.{Gathered, gathered_none, gathered_sent, gathered_more, gathered_all}
use Rattle.kernsheet.proofs.answer_lines.Goals as goal
use Rattle.kernsheet.proofs.answer_lines.Goals.{then-filled-lt32, else-filled-lt32}

abbrev Numbered : Type 0
Numbered = Zip Lines (RangeFrom ℕ)

pub loop-line-init : goal.loop-line-init
loop-line-init g c =
    let gives = c.into_iter-line-iterator.ensures.into_iter_gives in
    let left : lines_left c.args.lines ≡ lines_left (zip_first c.into_iter-line-iterator.result) =
    sym (ap (λ (z : Numbered). lines_left (zip_first z)) gives ∙ ap lines_left c.zip-line-items.ensures.first) in
    let number : (zip_second c.into_iter-line-iterator.result).start ≡ 1 =
    ap (λ (z : Numbered). (zip_second z).start) gives ∙ ap (λ (r : RangeFrom ℕ). r.start) c.zip-line-items.ensures.second in
    record {
      kern_sound = c.requires.kerns;
      ligature_sound = c.requires.ligatures;
      few = omega (arith, ap length left, c.requires.few);
      room = omega arith;
      gathered = gathered_none _ _ _ _ _ _ _ c.requires.fresh_kerns.reached c.requires.fresh_ligatures.reached left number;
    }

pub loop-line-preserved : goal.loop-line-preserved
loop-line-preserved g c =
    let inv = c.loop-line.invariant in
    let steps = c.in-Some.ensures.steps in
    let done = c.in-Ok.ensures.written.1 in
    let kern = whole_book g.X.Table.meaning g.X.Table.lender g.X.Table.beyond g.P.Fingerprint.number in
    let ligature = whole_book g.Y.Table.meaning g.Y.Table.lender g.Y.Table.beyond g.Q.Fingerprint.number in
    let ready : Gathered (state g.X.Table.meaning g.P.Fingerprint.number c.args.kerns.now) (state g.Y.Table.meaning g.Q.Fingerprint.number c.args.ligatures.now)
    (state_at (kern c.loop-line.kerns)) (state_at (ligature c.loop-line.ligatures)) (lines_left c.args.lines) (lines_left (zip_first c.loop-line.line-iterator))
    (zip_second c.loop-line.line-iterator).start c.loop-line.page c.if-filled-lt32.filled (g.W.Write.contents c.args.out.now) (g.W.Write.contents c.if-filled-lt32.out) c.if-filled-lt32.sent =
    elim c.if-filled-lt32.branch [
      | then-filled-lt32 w ↦ rw (w.out-is, w.filled-is, w.sent-is) (gathered_sent _ _ _ _ _ _ _ _ _ _ _ _ _ _ w.send_on-sent.ensures inv.gathered)
      | else-filled-lt32 w ↦ rw (w.out-is, w.filled-is, w.sent-is) inv.gathered
    ] in
    let free : c.if-filled-lt32.filled + 32 ≤ 8192 =
    elim c.if-filled-lt32.branch [
      | then-filled-lt32 w ↦ omega (arith, w.filled-is)
      | else-filled-lt32 w ↦ omega (arith, w.filled-is, w.if-filled-lt32, inv.room)
    ] in
    record {
      kern_sound = c.in-Ok.ensures.kerns;
      ligature_sound = c.in-Ok.ensures.ligatures;
      few = omega (arith, ap length steps.0, inv.few, steps.1.0, steps.1.1);
      room = omega (arith, free, done.3);
      gathered = gathered_more _ _ (kern c.loop-line.kerns) (kern c.do_line.new.kerns) (ligature c.loop-line.ligatures) (ligature c.do_line.new.ligatures) _ _ _ c.loop-line.page
          c.if-filled-lt32.filled _ _ _ c.in-Some.line.now _ done.0 _ _ c.in-Ok.bytes c.do_line.new.buf _
          (drop (8192 - c.if-filled-lt32.filled) (drop c.if-filled-lt32.filled c.loop-line.page)) c.requires.fresh_kerns c.requires.fresh_ligatures ready steps.0 done.1
          steps.1.0 steps.1.1 (omega (arith, free)) done.2 done.4;
    }

pub returns : goal.returns
returns g c = gathered_all _ _ _ _ _ _ _ _ _ _ _ _ _ _ c.send_on.ensures c.loop-line.invariant.gathered
    (⊎_elim (λ (s, none). none.0) (λ (s, none). absurd (omega (arith, none.0, c.loop-line.invariant.few))) c.in-None.ensures.steps)
