use Rattle.std.proofs.Common.{◌≡◌, ◌≤◌, ◌++◌, length, drop, sym, refl, ap, ◌∙◌, subst, rules}
use Rattle.layout.specs.Format.{block_count}
use Rattle.filter.specs.Meaning.{size_of}
use Rattle.filter.proofs.Held.{size_room}
use Rattle.filter.proofs.Promises.{filled, none_facts, none_held}
use Rattle.filter.proofs.filter.Filter.begin.Goals as goal

pub invariant_of-result : goal.invariant_of-result
invariant_of-result c =
    let r = c.args.plan.r in
    let b = c.blocks_of-blocks.result in
    let ws = c.args.words.now in
    let room = subst (λ n. size_of r n ≤ length ws) (sym c.blocks_of-blocks.ensures) (size_room r (length ws)) in
    let is = filled c.size_of.result (size_of r b) ws c.fill.new.self c.size_of.ensures room (c.fill.ensures.after (λ y e. e)) in
    let len : length ws ≡ length (c.fill.new.self ++ drop c.size_of.result ws) = search rules in
    let all = none_facts c.args.plan b ws _ (c.blocks_of-blocks.ensures ∙ ap (block_count r) len) is in
    record { sized = all.sized; laid = all.laid; rising = all.rising; roomy = all.roomy; narrow = all.narrow; counted = all.counted }

pub returns : goal.returns
returns c =
    let r = c.args.plan.r in
    let b = c.blocks_of-blocks.result in
    let ws = c.args.words.now in
    let room = subst (λ n. size_of r n ≤ length ws) (sym c.blocks_of-blocks.ensures) (size_room r (length ws)) in
    let is = filled c.size_of.result (size_of r b) ws c.fill.new.self c.size_of.ensures room (c.fill.ensures.after (λ y e. e)) in
    let len : length ws ≡ length (c.fill.new.self ++ drop c.size_of.result ws) = search rules in
    record { plan = refl; blocks = c.blocks_of-blocks.ensures; empty = none_held c.args.plan b ws _ (c.blocks_of-blocks.ensures ∙ ap (block_count r) len) is; words = is; lender = refl }
