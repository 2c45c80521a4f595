use Rattle.std.proofs.Common.{◌≡◌, ℕ, suc, ◌+◌, ◌*◌, ◌<◌, ◌≤◌, cond, eqb, ltb, get_or, take, sym, refl, ap, ◌∙◌, arith}
use Rattle.std.proofs.ByRecursion.{All-get_or}
use Rattle.std.proofs.lemmas.List.{take_all}
use Rattle.layout.specs.Rule.{one_if, quotient, remainder, laid, others, occupied_at, runend_at, remainder_at}
use Rattle.layout.proofs.Bounds.{empty_law}
use Rattle.layout.proofs.Bridge.{after_more}
use Rattle.layout.specs.Places.{slot_after, next_of, slot_of}
use Rattle.layout.proofs.Passes.{advance, advanced, advance_none, at_slot, at_gap, at_end, occupied_more, quotients_below, slot_below}
use Rattle.blocks.specs.Views.{runend_in, remainder_in}
use Rattle.blocks.proofs.Moving.{within_all}
use Rattle.filter.proofs.Held.{sorted_is}
use Rattle.filter.proofs.laying.Rising.lay_entries.Goals as goal

pub loop-i-init : goal.loop-i-init
loop-i-init c =
    let r = c.args.self.now.width.bits in
    let e = c.requires.empty in (
      refl,
      (λ k. e.occupied k),
      advance_none _ _ (λ k. e.runends k ∙ (empty_law 0 r k).4),
      (λ k. e.offsets k ∙ (empty_law 0 r (64 * k)).5),
      advance_none _ _ (λ k. e.remainders k ∙ (empty_law 0 r k).3),
    )

pub quotient_of-requires : goal.quotient_of-requires
quotient_of-requires c =
    let r = c.args.self.now.width.bits in
    let ps = c.args.self.now.list.now in
    omega (arith, All-get_or (λ p. quotient r p < 64 * c.args.self.now.blocks) ps c.loop-i.i 0 c.loop-i-test.true (quotients_below (64 * c.args.self.now.blocks) r ps (sorted_is c.args.self.now.list.now c.args.self.now.order) c.args.self.now.room))

pub lay_entry-requires : goal.lay_entry-requires
unfolding quotient
lay_entry-requires c =
    let r = c.args.self.now.width.bits in
    let ps = c.args.self.now.list.now in
    let room = slot_below (64 * c.args.self.now.blocks) r ps (sorted_is c.args.self.now.list.now c.args.self.now.order) c.args.self.now.room c.loop-i.i c.loop-i-test.true in
    record { within = within_all r c.loop-i.words c.args.self.now.blocks c.max-s.result (omega arith) (omega arith); below = omega arith }

pub overflow_add-next : goal.overflow_add-next
unfolding quotient
overflow_add-next c =
    let r = c.args.self.now.width.bits in
    let ps = c.args.self.now.list.now in
    let room = slot_below (64 * c.args.self.now.blocks) r ps (sorted_is c.args.self.now.list.now c.args.self.now.order) c.args.self.now.room c.loop-i.i c.loop-i-test.true in
    omega arith

pub loop-i-preserved : goal.loop-i-preserved
unfolding quotient
loop-i-preserved c =
    let r = c.args.self.now.width.bits in
    let ps = c.args.self.now.list.now in
    let i = c.loop-i.i in
    let l = c.loop-i-test.true in
    let inv = c.loop-i.invariant in
    let e = c.lay_entry.ensures in
    let s : c.max-s.result ≡ slot_of r ps i = omega arith in
    let n : c.loop-i.next ≡ next_of r ps i = inv.0 in
    let n1 : c.max-s.result + 1 ≡ suc (slot_of r ps i) = omega arith in
    let row : (full f g : ℕ → ℕ) (v : ℕ) → full (slot_of r ps i) ≡ v → ((k : ℕ) → next_of r ps i ≤ k → k < slot_of r ps i → full k ≡ 0)
    → ((k : ℕ) → f k ≡ cond (ltb k c.loop-i.next) (full k) 0) → ((k : ℕ) → g k ≡ cond (eqb k c.max-s.result) v (f k))
    → (k : ℕ) → g k ≡ cond (ltb k (c.max-s.result + 1)) (full k) 0 =
    λ full f g v here gap old new k.
    advance full f g (next_of r ps i) (slot_of r ps i) v (omega arith) here gap
    (λ j. old j ∙ ap (λ m. cond (ltb j m) (full j) 0) n) (λ j. new j ∙ ap (λ m. cond (eqb j m) v (f j)) s) k
    ∙ ap (λ m. cond (ltb k m) (full k) 0) (sym n1) in (
      omega (arith, after_more r ps i l),
      (λ k. e.occupied k ∙ ap (cond (eqb k (quotient r (get_or ps i 0))) 1) (inv.1 k) ∙ sym (occupied_more r ps i l k)),
      row (runend_at r (laid r 0 ps)) (runend_in r c.loop-i.words) (runend_in r c.lay_entry.new.words) _ (sym c.ends_run.ensures)
          (λ k lo hi. at_gap r ps (λ p later. one_if (others r (quotient r p) later)) 0 i k l lo hi) inv.2 e.runends,
      (λ k. e.offsets k ∙ inv.3 k),
      row (remainder_at r (laid r 0 ps)) (remainder_in r c.loop-i.words) (remainder_in r c.lay_entry.new.words) _
          (at_slot r ps (λ p later. remainder r p) 0 i l)
          (λ k lo hi. at_gap r ps (λ p later. remainder r p) 0 i k l lo hi) inv.4 e.remainders,
    )

pub returns : goal.returns
returns c =
    let r = c.args.self.now.width.bits in
    let ps = c.args.self.now.list.now in
    let inv = c.loop-i.invariant in
    let all : take c.loop-i.i ps ≡ ps = take_all c.loop-i.i ps c.loop-i-test.false in
    let end : slot_after r 0 ps ≤ c.loop-i.next = omega (arith, inv.0, ap (slot_after r 0) all) in
    record {
      occupied = λ k. inv.1 k ∙ ap (λ xs. occupied_at r xs k) all;
      runends = advanced _ _ c.loop-i.next (λ k g. at_end r ps (λ p later. one_if (others r (quotient r p) later)) 0 k (omega arith)) inv.2;
      offsets = inv.3;
      remainders = advanced _ _ c.loop-i.next (λ k g. at_end r ps (λ p later. remainder r p) 0 k (omega arith)) inv.4;
    }
