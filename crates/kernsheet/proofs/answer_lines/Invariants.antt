use Rattle.std.proofs.Common.{◌+◌, ◌≤◌, length}
use Rattle.std.specs.Iterator.Adapters.{zip_first, zip_second}
use Rattle.figures.specs.Coming.{lines_left}
use Rattle.book.specs.Reached.{state}
use Rattle.kernsheet.proofs.Pages.{Gathered}
use Rattle.kernsheet.proofs.answer_lines.Given as goal

-- the books are sound, the numbers last, and the lines done so far are answered by what was sent and what is gathered
abbrev pub invariant-loop-line : goal.invariant-loop-line
invariant-loop-line g l =
    let kern = state g.X.Table.meaning g.P.Fingerprint.number in
    let ligature = state g.Y.Table.meaning g.Q.Fingerprint.number in
    let left = lines_left (zip_first l.line-iterator) in
    let number = (zip_second l.line-iterator).start in
    record {
      kern_sound : g.X.Table.sound l.kerns.table.now;
      ligature_sound : g.Y.Table.sound l.ligatures.table.now;
      few : number + length left ≤ 65536;
      room : l.filled ≤ 8192;
      gathered : Gathered (kern l.initial.kerns) (ligature l.initial.ligatures) (kern l.kerns) (ligature l.ligatures) (lines_left l.lines) left number l.page l.filled
          (g.W.Write.contents l.initial.out) (g.W.Write.contents l.out) l.sent;
    }
