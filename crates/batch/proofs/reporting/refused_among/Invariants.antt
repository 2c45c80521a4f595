use Rattle.std.proofs.Common.{◌≡◌, ◌+◌, ◌++◌, drop, vec_items}
use Rattle.std.specs.Slice.Iter.{iter_rest}
use Rattle.batch.specs.Reports.{refused_from}
use Rattle.batch.proofs.reporting.refused_among.Given as goal

-- what is told so far, and then what the lines and the calls that are left tell
abbrev pub invariant-loop-i : goal.invariant-loop-i
invariant-loop-i l =
    refused_from 1 l.lines l.kerns l.ligatures
    ≡ vec_items l.refused ++ refused_from (l.i + 1) (drop l.i l.lines) (iter_rest l.kerns_left) (iter_rest l.ligatures_left)
