use Rattle.std.proofs.Common.{codes, ◌-◌, ◌^◌, false, ℕ, [], ◌∷◌, ◌++◌, flat_map, get_or, take, rules, sym, ap, ◌∙◌, arith}
use Rattle.std.proofs.lemmas.List.{take_more, take_all}
use Rattle.std.proofs.lemmas.List.{flat_map_more}
use Rattle.std.proofs.Output.{has_written_append, has_written_of_eq}
use Rattle.std.specs.Fmt.{HasWritten, decimal, padded_integral, format_spec, digits}
use Rattle.console.specs.Texts.{word_text}
use Rattle.console.proofs.Printed.{word_padded}
use Rattle.console.proofs.storage.BlockDisplay.fmt.Goals as goal

pub loop-word-preserved : goal.loop-word-preserved
loop-word-preserved g c = λ p.
    let ws = c.args.self.now.words.now in
    let i = c.loop-word.word-index in
    let w = get_or ws i 0 in
    let text = λ (w : ℕ). 32 ∷ word_text w in
    let one : HasWritten g.W.Write.write_str_gives c.loop-word.f (32 ∷ padded_integral (format_spec 32 0 4 16 (2 ^ 64 - 1)) false [] (digits 16 false w)) c.write-in-loop-word.new.self = search rules in
    let eq = ap (λ t. flat_map text (take i ws) ++ (32 ∷ t)) (word_padded w) ∙ flat_map_more text [] (take i ws) w ∙ ap (flat_map text) (sym (take_more ws i 0 (omega arith))) in
    has_written_of_eq _ _ _ _ _ eq (has_written_append _ _ _ _ _ _ (c.loop-word.invariant p) one)

pub returns-clause-writes : goal.returns-clause-writes
returns-clause-writes g c = λ p e.
    let number = c.args.self.now.number in
    let ws = c.args.self.now.words.now in
    let head : HasWritten g.W.Write.write_str_gives c.args.f.now (codes "block " ++ decimal number) c.write.new.self = search rules in
    let whole = ap (λ xs. codes "block " ++ decimal number ++ flat_map (λ w. 32 ∷ word_text w) xs) (take_all c.loop-word.word-index ws c.loop-word-test.false) in
    has_written_of_eq _ _ _ _ _ whole (has_written_append _ _ _ _ _ _ head (c.loop-word.invariant head.plain))
