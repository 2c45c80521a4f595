use Rattle.std.proofs.Common.{length}
use Rattle.forms.proofs.row.+row_of.Given as goal

abbrev pub decreases-row_of : goal.decreases-row_of
decreases-row_of l = length l.bytes.now
