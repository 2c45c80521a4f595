use Rattle.std.proofs.Common.{◌≡◌, ℕ, ◌+◌, ◌-◌, ◌/◌, ◌^◌, ◌<◌, ◌≤◌, get_or, ap, ◌∙◌, arith, shr-shr, rules}
use lib.Pow.{shr_le}
use Rattle.std.proofs.lemmas.List.{take_all}
use Rattle.layout.specs.Rule.{quotient}
use Rattle.layout.specs.Places.{slot_after}
use Rattle.layout.proofs.Bridge.{after_more}
use Rattle.layout.proofs.Rooms.{room_after}
use Rattle.layout.proofs.slots_needed.Goals as goal

-- a quotient leaves out one bit at least
half : (p k : ℕ) → p < 2 ^ 64 → 1 ≤ k → p / 2 ^ k < 2 ^ 63
half p k l g =
    let e : 1 + (k - 1) ≡ k = omega arith in
    omega (arith, shr_le (p / 2 ^ 1) (k - 1), shr-shr p 1 (k - 1), ap (λ j. p / 2 ^ j) e)

pub overflow_add-next : goal.overflow_add-next
overflow_add-next c =
    let p = get_or c.args.rising.now c.loop-p.p-index 0 in
    let fits : p < 2 ^ 64 = search rules in
    omega (arith, half p c.args.width.bits fits c.args.width.some)

pub loop-p-preserved : goal.loop-p-preserved
unfolding quotient
loop-p-preserved c =
    let p = get_or c.args.rising.now c.loop-p.p-index 0 in
    let fits : p < 2 ^ 64 = search rules in (
      omega (arith, after_more c.args.width.bits c.args.rising.now c.loop-p.p-index c.loop-p-test.true),
      omega (arith, half p c.args.width.bits fits c.args.width.some),
    )

pub returns : goal.returns
returns c =
    let ps = c.args.rising.now in
    let r = c.args.width.bits in
    let all : c.loop-p.next ≡ slot_after r 0 ps = c.loop-p.invariant.0 ∙ ap (slot_after r 0) (take_all c.loop-p.p-index ps c.loop-p-test.false) in
    record {
      fits = λ s slots l. (room_after slots r ps s).1 (omega arith);
      only = λ s slots h. omega (arith, (room_after slots r ps s).0 h);
    }
