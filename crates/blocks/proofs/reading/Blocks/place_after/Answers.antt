use Rattle.std.proofs.Common.{◌≡◌, ℕ, ◌+◌, ◌*◌, ◌/◌, ◌%◌, ap, subst, ⊎_elim, arith}
use Rattle.layout.specs.Load.{tally}
use Rattle.blocks.specs.Views.{runend_in}
use Rattle.blocks.specs.Searches.{FoundRunend}
use Rattle.blocks.proofs.Searching.{found, fewer}
use Rattle.blocks.proofs.reading.Blocks.place_after.Goals as goal

pub returns-then-k-eq0 : goal.returns-then-k-eq0
returns-then-k-eq0 c = (omega arith, record { none = λ e. omega arith; some = λ l. absurd (omega arith) })

pub returns-in_err-i : goal.returns-in_err-i
returns-in_err-i c =
    let r = c.args.self.now.width.bits in
    let ws = c.args.self.now.words.now in
    let from = c.args.from.0 in
    let all : 64 * (from / 64) + from % 64 ≡ from = omega arith in
    rw c.from_residual.ensures (⊎_elim (λ z. absurd (omega arith))
    (λ l. omega (arith, fewer r ws (from / 64) (from % 64) c.args.k c.args.runends c.ones_from.result c.requires (omega arith) c.ones_from.ensures l, ap (tally (runend_in r ws)) all))
    c.in_err-i.ensures)

pub returns : goal.returns
returns c =
    let r = c.args.self.now.width.bits in
    let ws = c.args.self.now.words.now in
    let from = c.args.from.0 in
    let all : 64 * (from / 64) + from % 64 ≡ from = omega arith in
    let e : ℕ = 64 * (from / 64) + c.in_ok-i.i in
    let h : FoundRunend r ws from c.args.k e =
    subst (λ x. FoundRunend r ws x c.args.k e) all
    (found r ws (from / 64) (from % 64) c.args.k c.in_ok-i.i c.args.runends c.ones_from.result c.requires (omega arith) c.ones_from.ensures c.in_ok-i.ensures) in
    (omega (arith, c.in_ok-i.ensures.0), record { none = λ z. absurd (omega arith); some = λ l. (e, h, omega arith) })
