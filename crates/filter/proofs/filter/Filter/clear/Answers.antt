use Rattle.std.proofs.Common.{◌≡◌, length, ◌++◌, drop, refl, ap, ◌∙◌, rules}
use Rattle.layout.specs.Format.{block_count}
use Rattle.filter.specs.Meaning.{size_of}
use Rattle.filter.specs.Filters.{words_of}
use Rattle.filter.proofs.Promises.{room_of, filled, none_facts, none_held}
use Rattle.filter.proofs.filter.Filter.clear.Goals as goal

pub invariant_of-self : goal.invariant_of-self
invariant_of-self c =
    let f = c.args.self.now in
    let is = filled c.size_of-end.result (size_of f.plan.r f.blocks) (words_of f) c.fill.new.self c.size_of-end.ensures (room_of f) (c.fill.ensures.after (λ y e. e)) in
    let len : length (words_of f) ≡ length (c.fill.new.self ++ drop c.size_of-end.result (words_of f)) = search rules in
    let all = none_facts f.plan f.blocks (words_of f) _ (f.sized ∙ ap (block_count f.plan.r) len) is in
    record { sized = all.sized; laid = all.laid; rising = all.rising; roomy = all.roomy; narrow = all.narrow; counted = all.counted }

pub returns : goal.returns
returns c =
    let f = c.args.self.now in
    let is = filled c.size_of-end.result (size_of f.plan.r f.blocks) (words_of f) c.fill.new.self c.size_of-end.ensures (room_of f) (c.fill.ensures.after (λ y e. e)) in
    let len : length (words_of f) ≡ length (c.fill.new.self ++ drop c.size_of-end.result (words_of f)) = search rules in
    record { same = record { plan = refl; blocks = refl; lender = refl }; empty = none_held f.plan f.blocks (words_of f) _ (f.sized ∙ ap (block_count f.plan.r) len) is; words = is }
