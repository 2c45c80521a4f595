use Rattle.std.proofs.Common.{◌∷◌, take, flat_map}
use Rattle.std.specs.Io.KnownBytes.{Appends}
use Rattle.console.specs.Texts.{word_text}
use Rattle.console.proofs.storage.send_words.Given as goal

abbrev pub invariant-loop-word : goal.invariant-loop-word
invariant-loop-word g l =
    Appends (g.W.Write.contents l.initial.out) (g.W.Write.contents l.out) (flat_map (λ w. 32 ∷ word_text w) (take l.word-index l.words))
