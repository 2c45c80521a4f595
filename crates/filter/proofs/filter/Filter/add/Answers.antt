use Rattle.std.proofs.Common.{◌≡◌, ◌+◌, ◌^◌, ◌<◌, ◌++◌, length, drop, sym, refl, arith, rules}
use Rattle.std.proofs.lemmas.Bool.{ltb-true}
use Rattle.filter.specs.Filters.{words_of}
use Rattle.filter.specs.Arrivals.{NoneArrives}
use Rattle.filter.proofs.Promises.{few_of, held_few, quotient_small, by_layout, arrives_in, put_needs, put_over, more_facts, added, not_added}
use Rattle.filter.proofs.filter.Filter.add.Goals as goal

pub arrival-requires : goal.arrival-requires
arrival-requires c = quotient_small c.args.self.now c.layout.result c.args.fingerprint c.layout.ensures (ltb-true c.args.fingerprint _ (sym c.if-not-admits.ensures))

pub returns-in_default : goal.returns-in_default
returns-in_default c =
    let f = c.args.self.now in
    let p = c.args.fingerprint in
    let small : p < 2 ^ (f.plan.q + f.plan.r) = ltb-true p _ (sym c.if-not-admits.ensures) in
    let no = not_added f p small (by_layout f c.layout.result c.layout.ensures (λ r blocks es. NoneArrives r blocks es p) c.in_default.ensures) in
    record { same = record { plan = refl; blocks = refl; lender = refl }; done = (small, no.0, no.1, refl) }

pub put_entry-requires : goal.put_entry-requires
put_entry-requires c =
    let all = put_needs c.args.self.now c.layout.result c.layout.ensures c.args.fingerprint _ _ _ _ _ _ c.in-Some.ensures c.width.result.bits c.size_of-end.result c.width.ensures c.size_of-end.ensures in
    record { room = all.0; small = all.1; few = all.2 }

pub overflow_add-self : goal.overflow_add-self
overflow_add-self c = let f = c.args.self.now in omega (arith, held_few f, few_of f)

pub invariant_of-self : goal.invariant_of-self
invariant_of-self c =
    let f = c.args.self.now in
    let p = c.args.fingerprint in
    let after = c.put_entry.new.words in
    let a = arrives_in f c.layout.result c.layout.ensures p _ _ _ _ _ _ c.in-Some.ensures in
    let is = put_over f c.layout.result c.layout.ensures p _ _ _ _ _ _ c.in-Some.ensures c.width.result.bits c.size_of-end.result c.width.ensures c.size_of-end.ensures after c.put_entry.ensures.put c.put_entry.ensures.bits (search rules) in
    let len : length (words_of f) ≡ length (after ++ drop c.size_of-end.result (words_of f)) = search rules in
    let all = more_facts f p _ _ _ (ltb-true p _ (sym c.if-not-admits.ensures)) a.first_free a.below len refl is in
    record { sized = all.sized; laid = all.laid; rising = all.rising; roomy = all.roomy; narrow = all.narrow; counted = all.counted }

pub returns : goal.returns
returns c =
    let f = c.args.self.now in
    let p = c.args.fingerprint in
    let a = arrives_in f c.layout.result c.layout.ensures p _ _ _ _ _ _ c.in-Some.ensures in
    let is = put_over f c.layout.result c.layout.ensures p _ _ _ _ _ _ c.in-Some.ensures c.width.result.bits c.size_of-end.result c.width.ensures c.size_of-end.ensures c.put_entry.new.words c.put_entry.ensures.put c.put_entry.ensures.bits (search rules) in
    let more = added f p _ _ a.first_free a.below is in
    record { same = record { plan = refl; blocks = refl; lender = refl }; done = (ltb-true p _ (sym c.if-not-admits.ensures), more.0, more.1, more.2, more.3) }
