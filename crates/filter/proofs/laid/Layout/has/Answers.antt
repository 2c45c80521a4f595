use Rattle.std.proofs.Common.{◌≡◌, ℕ, ◌+◌, Bool, true, false, eqb, ltb, sym, ap, ◌∙◌, refl, arith, List}
use Rattle.std.proofs.lemmas.Bool.{lt-ltb, le-ltb}
use Rattle.layout.specs.Rule.{quotient, remainder}
use Rattle.layout.specs.Load.{start}
use Rattle.layout.specs.Laws.{copies_of}
use Rattle.blocks.specs.Views.{occupied_bit_in, remainder_in}
use Rattle.filter.specs.Slots.{InRun}
use Rattle.filter.proofs.Edited.{not_occupied}
use Rattle.filter.specs.declared.laid.Layout.{Layout}
use Rattle.filter.proofs.Sounds.{sound_of, none_found, one_found, placed_there}
use Rattle.filter.specs.Layouts.{bits_of, words_in, many_of, entries}
use Rattle.filter.proofs.laid.Layout.has.Goals as goal

-- what the search in the run says of the fingerprint
told : (l : Layout) (p c v : ℕ) (r : Bool) → c ≡ quotient (bits_of l) p → v ≡ remainder (bits_of l) p
    → (r ≡ true → (s : ℕ) × InRun (many_of l) c s × (remainder_in (bits_of l) (words_in l) s ≡ v))
    → (r ≡ false → (s : ℕ) → InRun (many_of l) c s → remainder_in (bits_of l) (words_in l) s ≡ v → ⊥) → r ≡ ltb 0 (copies_of p (entries l))
told l p c v true ec ev found lacks =
    let w = found refl in
    sym (lt-ltb 0 _ (placed_there l p c _ _ w.0 (one_found l p c v c _ _ w.0 ec ev refl refl refl w.1 w.2)))
told l p c v false ec ev found lacks =
    sym (le-ltb 0 _ (omega (arith, none_found l p c v ec ev (λ k lt. lacks refl (start (many_of l) c + k) (record { from = omega arith; below = omega arith })))))

idle : (r : ℕ) (ws : List ℕ) (c q : ℕ) → false ≡ eqb (occupied_bit_in r ws c) 1 → c ≡ q → eqb (occupied_bit_in r ws q) 1 ≡ false
idle r ws c q e z = sym (e ∙ ap (λ x. eqb (occupied_bit_in r ws x) 1) z)

pub returns-then-occupied : goal.returns-then-occupied
returns-then-occupied c =
    told c.args.self.now c.args.fingerprint c.quotient_of-c.result.0 c.remainder_of.result c.run_has.result c.quotient_of-c.ensures c.remainder_of.ensures c.run_has.ensures.yes c.run_has.ensures.not

pub returns-else-occupied : goal.returns-else-occupied
returns-else-occupied c =
    let l = c.args.self.now in
    c.if-occupied.false ∙ sym (le-ltb 0 _ (omega (
      arith,
      not_occupied _ _ _ (sound_of l) c.args.fingerprint
          (idle (bits_of l) (words_in l) _ _ c.if-occupied.ensures c.quotient_of-c.ensures),
    )))
