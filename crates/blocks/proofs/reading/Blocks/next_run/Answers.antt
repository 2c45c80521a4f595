use Rattle.std.proofs.Common.{◌+◌, ◌*◌, ◌/◌, subst, inr, ⊎_elim, arith}
use Rattle.blocks.specs.Searches.{AfterRunends, FoundRunend}
use Rattle.blocks.proofs.Searching.{found, fewer, after_count}
use Rattle.blocks.proofs.reading.Blocks.next_run.Goals as goal

pub returns-in_err-start : goal.returns-in_err-start
returns-in_err-start c = rw c.from_residual-in_err-start.ensures (inr (omega (arith, c.in_ok-open.ensures.1, c.in_err-start.ensures)))

pub returns-in_err-end : goal.returns-in_err-end
returns-in_err-end c =
    let r = c.args.self.now.width.bits in
    let ws = c.args.self.now.words.now in
    let b = c.args.c.0 / 64 in
    let i = c.in_ok-start.start in
    rw c.from_residual-in_err-end.ensures (⊎_elim (λ z. absurd (omega arith))
    (λ l. inr (omega (
      arith,
      c.in_ok-open.ensures.1,
      (after_count r ws c.args.c.0 _ _ c.in_ok-start.ensures.1).1,
      fewer r ws b i 1 c.word-runends.result c.ones_from.result c.word-runends.ensures c.in_ok-start.ensures.0 c.ones_from.ensures l,
    ))) c.in_err-end.ensures)

pub overflow_add-result : goal.overflow_add-result
overflow_add-result c =
    let r = c.args.self.now.width.bits in
    let ws = c.args.self.now.words.now in
    let h = found r ws (c.args.c.0 / 64) c.in_ok-start.start 1 c.in_ok-end.end c.word-runends.result c.ones_from.result c.word-runends.ensures c.in_ok-start.ensures.0 c.ones_from.ensures c.in_ok-end.ensures in
    omega (arith, h.from, c.in_ok-end.ensures.0)

pub returns : goal.returns
returns c =
    let r = c.args.self.now.width.bits in
    let ws = c.args.self.now.words.now in
    let b = c.args.c.0 / 64 in
    let i = c.in_ok-start.start in
    let e = c.in_ok-end.end in
    let k = c.in_ok-open.ensures.1 in
    let after = c.in_ok-start.ensures.1 in
    let count = after_count r ws c.args.c.0 _ _ after in
    let h : FoundRunend r ws (64 * b + i) 1 (64 * b + e) = found r ws b i 1 e c.word-runends.result c.ones_from.result c.word-runends.ensures c.in_ok-start.ensures.0 c.ones_from.ensures c.in_ok-end.ensures in
    record {
      begun = c.in_ok-open.ensures.0;
      start = subst (λ y. AfterRunends r ws c.args.c.0 y (64 * b + i)) k after;
      end = record { from = omega (arith, count.0, h.from); one = h.one; nth = omega (arith, count.1, h.nth, k) };
      near = omega (arith, c.in_ok-end.ensures.0);
    }
