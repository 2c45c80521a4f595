use Rattle.std.proofs.Common.{[], ◌∷◌, ◌++◌, take, flat_map}
use Rattle.std.specs.Fmt.{decimal}
use Rattle.std.specs.Io.KnownBytes.{Appends}
use Rattle.filterlog.proofs.answers.send_list.Given as goal

abbrev pub invariant-loop-number : goal.invariant-loop-number
invariant-loop-number g l =
    Appends (g.W.Write.contents l.initial.out) (g.W.Write.contents l.out) (flat_map (λ n. decimal n ++ (32 ∷ [])) (take l.number-index l.front))
