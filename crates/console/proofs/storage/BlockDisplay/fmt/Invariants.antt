use Rattle.std.proofs.Common.{◌∷◌, take, flat_map}
use Rattle.std.specs.Fmt.{HasWritten, IsPlainFormatter}
use Rattle.console.specs.Texts.{word_text}
use Rattle.console.proofs.storage.BlockDisplay.fmt.Given as goal

abbrev pub invariant-loop-word : goal.invariant-loop-word
invariant-loop-word g l =
    IsPlainFormatter l.initial.f → HasWritten g.W.Write.write_str_gives l.initial.f (flat_map (λ w. 32 ∷ word_text w) (take l.word-index l.word-items)) l.f
