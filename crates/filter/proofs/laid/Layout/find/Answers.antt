use Rattle.std.proofs.Common.{◌≡◌, ℕ, ◌+◌, ◌<◌, false, eqb, List, Some, None, Option, sym, ap, ◌∙◌, MatchOption}
use Rattle.layout.specs.Rule.{quotient, remainder}
use Rattle.layout.specs.Load.{start}
use Rattle.layout.specs.Laws.{copies_of}
use Rattle.blocks.specs.Views.{occupied_bit_in, remainder_in}
use Rattle.filter.specs.Locating.{Placed}
use Rattle.filter.specs.Slots.{InRun}
use Rattle.filter.proofs.Edited.{not_occupied}
use Rattle.filter.specs.declared.laid.Layout.{Layout}
use Rattle.filter.specs.declared.laid.find.Place.{Place}
use Rattle.filter.proofs.Sounds.{sound_of, none_found, one_found}
use Rattle.filter.specs.Layouts.{bits_of, words_in, many_of, entries}
use Rattle.filter.proofs.laid.Layout.find.Goals as goal

idle : (r : ℕ) (ws : List ℕ) (c q : ℕ) → false ≡ eqb (occupied_bit_in r ws c) 1 → c ≡ q → eqb (occupied_bit_in r ws q) 1 ≡ false
idle r ws c q e z = sym (e ∙ ap (λ x. eqb (occupied_bit_in r ws x) 1) z)

pub returns-then-not-occupied : goal.returns-then-not-occupied
returns-then-not-occupied c =
    let l = c.args.self.now in
    not_occupied _ _ _ (sound_of l) c.args.fingerprint
    (idle (bits_of l) (words_in l) _ _ c.if-not-occupied.ensures c.quotient_of-c.ensures)

-- what the search in the run says of the fingerprint
told : (l : Layout) (p c v : ℕ) (o : Option Place) → c ≡ quotient (bits_of l) p → v ≡ remainder (bits_of l) p
    → MatchOption o ((k : ℕ) → k < many_of l c → remainder_in (bits_of l) (words_in l) (start (many_of l) c + k) ≡ v → ⊥)
    (λ x. (x.quotient.0 ≡ c) × (x.from.0 ≡ start (many_of l) c) × (x.to.0 ≡ x.from.0 + many_of l c) × InRun (many_of l) c x.at.0 × (remainder_in (bits_of l) (words_in l) x.at.0 ≡ v))
    → MatchOption o (copies_of p (entries l) ≡ 0) (λ x. Placed (bits_of l) (entries l) p x.quotient.0 x.from.0 x.to.0 x.at.0)
told l p c v None ec ev h = none_found l p c v ec ev h
told l p c v (Some x) ec ev (ed, starts, stops, in_run, same) = one_found l p c v _ _ _ _ ec ev ed starts stops in_run same

pub returns : goal.returns
returns c =
    told c.args.self.now c.args.fingerprint c.quotient_of-c.result.0 c.remainder_of.result c.in_run.result c.quotient_of-c.ensures c.remainder_of.ensures c.in_run.ensures
