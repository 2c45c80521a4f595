use Rattle.std.proofs.Common.{◌≡◌, ℕ, suc, ◌+◌, ◌-◌, ◌*◌, ◌^◌, ◌<◌, max, ◌≢◌, List, length, get_or, take, drop, ap, ◌∙◌, ⊎_elim, arith}
use Rattle.std.proofs.lemmas.List.{get_or-drop, take_rest}
use Rattle.std.proofs.lemmas.Bool.{cases_eq}
use Rattle.layout.specs.Rule.{quotient}
use Rattle.layout.proofs.Bridge.{after_more}
use Rattle.layout.specs.Places.{next_of}
use Rattle.layout.proofs.Passes.{next_below}
use Rattle.layout.proofs.Rooms.{room_after}
use Rattle.filter.specs.declared.laying.Rising.{Rising}
use Rattle.filter.proofs.Held.{sorted_is}
use Rattle.filter.proofs.laying.Rising.skip_below.Goals as goal

-- the k-th of those from the i-th on
later : (ps : List ℕ) (i k : ℕ) → get_or (take (length ps - i) (drop i ps)) k 0 ≡ get_or ps (i + k) 0
later ps i k = ap (λ xs. get_or xs k 0) (take_rest ps i) ∙ get_or-drop i ps k 0

-- the slot after the j-th is a slot
fits : (s : Rising) (j : ℕ) → j < length s.list.now → suc (max (quotient s.width.bits (get_or s.list.now j 0)) (next_of s.width.bits s.list.now j)) < 2 ^ 32
fits s j l =
    let r = s.width.bits in
    let ps = s.list.now in
    omega (arith, s.few, after_more r ps j l, next_below r ps (j + 1), (room_after (64 * s.blocks) r ps (sorted_is ps s.order)).0 s.room)

pub quotient_of-c-requires : goal.quotient_of-c-requires
quotient_of-c-requires c =
    let r = c.args.self.now.width.bits in
    let ps = c.args.self.now.list.now in
    let j : ℕ = c.args.i + c.loop-k.k in
    let l : j < length ps = omega arith in
    omega (arith, ap (quotient r) (later ps c.args.i c.loop-k.k), fits c.args.self.now j l)

pub overflow_add-after : goal.overflow_add-after
overflow_add-after c =
    let r = c.args.self.now.width.bits in
    let ps = c.args.self.now.list.now in
    let j : ℕ = c.args.i + c.loop-k.k in
    let l : j < length ps = omega arith in
    omega (arith, ap (quotient r) (later ps c.args.i c.loop-k.k), fits c.args.self.now j l, c.loop-k.invariant.1, c.quotient_of-c.ensures)

pub loop-k-preserved : goal.loop-k-preserved
loop-k-preserved c =
    let r = c.args.self.now.width.bits in
    let ps = c.args.self.now.list.now in
    let k = c.loop-k.k in
    let i = c.args.i in
    let l : i + k < length ps = omega arith in
    let inv = c.loop-k.invariant in
    let here : c.quotient_of-c.result.0 ≡ quotient r (get_or ps (i + k) 0) = c.quotient_of-c.ensures ∙ ap (quotient r) (later ps i k) in
    let next : (i + k) + 1 ≡ i + (k + 1) = omega arith in (
      (λ j lo hi. ⊎_elim
          (λ (e : j ≡ i + k). omega (arith, here, ap (λ x. quotient r (get_or ps x 0)) e))
          (λ (ne : j ≢ i + k). inv.0 j lo (omega arith)) (cases_eq j (i + k))),
      omega (arith, after_more r ps (i + k) l, inv.1, here, ap (next_of r ps) next),
    )
