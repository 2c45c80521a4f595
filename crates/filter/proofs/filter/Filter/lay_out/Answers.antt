use Rattle.std.proofs.Common.{◌≡◌, ◌++◌, length, drop, sym, refl, ap₂, ◌∙◌, subst, arith, rules}
use Rattle.layout.specs.Rule.{sorted, Roomy}
use Rattle.layout.specs.Format.{filter_words}
use Rattle.layout.proofs.Bounds.{within_law}
use Rattle.layout.proofs.Sorts.{after_sort}
use Rattle.filter.specs.Filters.{words_of, slots_of}
use Rattle.layout.proofs.Bags.{sorted_of_Sorted}
use Rattle.filter.proofs.Promises.{few_of, over, list_facts, list_laid, list_crowds}
use Rattle.filter.proofs.filter.Filter.lay_out.Goals as goal

pub returns-then-slots_needed-self : goal.returns-then-slots_needed-self
returns-then-slots_needed-self c =
    let f = c.args.self.now in
    let list = c.args.list.now in
    let rising = c.sort_unstable.new.self in
    let narrow = c.if-not-all_admitted.ensures.yes refl in
    let o = after_sort list rising c.sort_unstable.ensures.permutation c.sort_unstable.ensures.sorted in
    let fits = λ (room : Roomy (slots_of f) f.plan.r (sorted list)). subst (λ r. Roomy (slots_of f) r rising) (sym c.width-width.ensures) (subst (Roomy (slots_of f) f.plan.r) (sym o.1) room) in
    record {
      same = c.clear.ensures.same;
      done = (
        narrow,
        list_crowds f list narrow (λ room. omega (arith, c.slots_needed.ensures.only o.0 (slots_of f) (fits room))),
        c.clear.ensures.empty,
        c.clear.ensures.words,
        o.1,
      );
    }

pub invariant_of-rising : goal.invariant_of-rising
invariant_of-rising c =
    let f = c.args.self.now in
    let o = after_sort c.args.list.now c.sort_unstable.new.self c.sort_unstable.ensures.permutation c.sort_unstable.ensures.sorted in
    record { few = few_of f; order = sorted_of_Sorted c.sort_unstable.new.self o.0; room = c.slots_needed.ensures.fits o.0 (slots_of f) c.if-slots_needed-self.false }

pub overflow_cast-self-2 : goal.overflow_cast-self-2
overflow_cast-self-2 c =
    let f = c.args.self.now in
    let o = after_sort c.args.list.now c.sort_unstable.new.self c.sort_unstable.ensures.permutation c.sort_unstable.ensures.sorted in
    let room = c.slots_needed.ensures.fits o.0 (slots_of f) c.if-slots_needed-self.false in
    omega (arith, few_of f, (within_law (slots_of f) c.width-width.result.bits c.sort_unstable.new.self o.0 room).size)

pub invariant_of-self : goal.invariant_of-self
invariant_of-self c =
    let f = c.args.self.now in
    let list = c.args.list.now in
    let rising = c.sort_unstable.new.self in
    let o = after_sort list rising c.sort_unstable.ensures.permutation c.sort_unstable.ensures.sorted in
    let room = subst (Roomy (slots_of f) f.plan.r) o.1 (subst (λ r. Roomy (slots_of f) r rising) c.width-width.ensures (c.slots_needed.ensures.fits o.0 (slots_of f) c.if-slots_needed-self.false)) in
    let is = over f (sorted list) c.lay.new.words c.size_of-end.result (c.lay.ensures ∙ ap₂ (λ r ps. filter_words r f.blocks ps) c.width-width.ensures o.1) c.size_of-end.ensures in
    let len : length (words_of f) ≡ length (c.lay.new.words ++ drop c.size_of-end.result (words_of f)) = search rules in
    let all = list_facts f list (c.if-not-all_admitted.ensures.yes refl) (length rising) _ room len c.sort_unstable.ensures.len is in
    record { sized = all.sized; laid = all.laid; rising = all.rising; roomy = all.roomy; narrow = all.narrow; counted = all.counted }

pub returns : goal.returns
returns c =
    let f = c.args.self.now in
    let list = c.args.list.now in
    let rising = c.sort_unstable.new.self in
    let narrow = c.if-not-all_admitted.ensures.yes refl in
    let o = after_sort list rising c.sort_unstable.ensures.permutation c.sort_unstable.ensures.sorted in
    let room = subst (Roomy (slots_of f) f.plan.r) o.1 (subst (λ r. Roomy (slots_of f) r rising) c.width-width.ensures (c.slots_needed.ensures.fits o.0 (slots_of f) c.if-slots_needed-self.false)) in
    let is = over f (sorted list) c.lay.new.words c.size_of-end.result (c.lay.ensures ∙ ap₂ (λ r ps. filter_words r f.blocks ps) c.width-width.ensures o.1) c.size_of-end.ensures in
    let w = list_laid f list narrow _ room is in
    record { same = record { plan = refl; blocks = refl; lender = refl }; done = (narrow, w.0, w.1, w.2, o.1) }
