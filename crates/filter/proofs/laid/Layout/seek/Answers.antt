use Rattle.std.proofs.Common.{◌<◌, ◌≤◌, rules}
use Rattle.std.proofs.lemmas.Iterator.{first_from_Range}
use Rattle.blocks.specs.Views.{remainder_in}
use Rattle.filter.specs.Layouts.{bits_of, words_in}
use Rattle.filter.proofs.laid.Layout.seek.Goals as goal

pub returns-clause-below : goal.returns-clause-below
returns-clause-below c =
    let l = c.args.self.now in
    let first = first_from_Range _ _ _ c.find.result (λ s. c.args.rem ≤ remainder_in (bits_of l) (words_in l) s) (λ s. remainder_in (bits_of l) (words_in l) s < c.args.rem) c.find.ensures.ran
    (λ x q called. search rules) (λ x q called. search rules) in
    search rules
