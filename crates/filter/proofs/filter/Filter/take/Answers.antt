use Rattle.std.proofs.Common.{◌≡◌, ◌++◌, length, drop, sym, refl, arith, rules}
use Rattle.std.proofs.lemmas.Bool.{ltb-true}
use Rattle.layout.specs.Laws.{copies_of}
use Rattle.layout.proofs.Sorts.{length_remove}
use Rattle.filter.specs.Filters.{words_of, fingerprints}
use Rattle.filter.proofs.Promises.{quotient_small, by_layout, gone_held, gone_needs, gone_over, less_facts, taken}
use Rattle.filter.proofs.filter.Filter.take.Goals as goal

pub departure-requires : goal.departure-requires
departure-requires c = quotient_small c.args.self.now c.layout.result c.args.fingerprint c.layout.ensures (ltb-true c.args.fingerprint _ (sym c.if-not-admits.ensures))

pub returns-in_default : goal.returns-in_default
returns-in_default c =
    let f = c.args.self.now in
    let p = c.args.fingerprint in
    let none = by_layout f c.layout.result c.layout.ensures (λ r blocks es. copies_of p es ≡ 0) c.in_default.ensures in
    record { same = record { plan = refl; blocks = refl; lender = refl }; done = (ltb-true p _ (sym c.if-not-admits.ensures), none, refl) }

pub take_entry-requires : goal.take_entry-requires
take_entry-requires c =
    let all = gone_needs c.args.self.now c.layout.result c.layout.ensures c.args.fingerprint _ _ _ _ _ c.in-Some.ensures c.width.result.bits c.size_of-end.result c.width.ensures c.size_of-end.ensures in
    record { room = all.0; waits = all.1 }

pub overflow_sub-self : goal.overflow_sub-self
overflow_sub-self c =
    let f = c.args.self.now in
    let p = c.args.fingerprint in
    omega (arith, f.counted, length_remove p (fingerprints f) (gone_held f c.layout.result c.layout.ensures p _ _ _ _ _ c.in-Some.ensures))

pub invariant_of-self : goal.invariant_of-self
invariant_of-self c =
    let f = c.args.self.now in
    let p = c.args.fingerprint in
    let after = c.take_entry.new.words in
    let is = gone_over f c.layout.result c.layout.ensures p _ _ _ _ _ c.in-Some.ensures c.width.result.bits c.size_of-end.result c.width.ensures c.size_of-end.ensures after c.take_entry.ensures.gone c.take_entry.ensures.bits (search rules) in
    let len : length (words_of f) ≡ length (after ++ drop c.size_of-end.result (words_of f)) = search rules in
    let all = less_facts f p _ _ (gone_held f c.layout.result c.layout.ensures p _ _ _ _ _ c.in-Some.ensures) len refl is in
    record { sized = all.sized; laid = all.laid; rising = all.rising; roomy = all.roomy; narrow = all.narrow; counted = all.counted }

pub returns : goal.returns
returns c =
    let f = c.args.self.now in
    let p = c.args.fingerprint in
    let is = gone_over f c.layout.result c.layout.ensures p _ _ _ _ _ c.in-Some.ensures c.width.result.bits c.size_of-end.result c.width.ensures c.size_of-end.ensures c.take_entry.new.words c.take_entry.ensures.gone c.take_entry.ensures.bits (search rules) in
    record { same = record { plan = refl; blocks = refl; lender = refl }; done = (ltb-true p _ (sym c.if-not-admits.ensures), gone_held f c.layout.result c.layout.ensures p _ _ _ _ _ c.in-Some.ensures, taken f p _ is, is) }
