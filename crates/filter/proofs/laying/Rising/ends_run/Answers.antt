use Rattle.std.proofs.Common.{◌+◌, length, sym, ◌∙◌, arith}
use Rattle.std.proofs.lemmas.Bool.{cond-true, eq-eqb}
use Rattle.layout.specs.Rule.{quotient}
use Rattle.layout.proofs.Passes.{ends_last, ends_next}
use Rattle.filter.proofs.laying.Rising.ends_run.Goals as goal

pub returns-then-i-self : goal.returns-then-i-self
returns-then-i-self c =
    let ps = c.args.self.now.list.now in
    cond-true _ 1 0 (eq-eqb (c.args.i + 1) (length ps) (omega arith)) ∙ sym (ends_last c.args.self.now.width.bits ps c.args.i c.requires (omega arith))

pub returns-else-i-self : goal.returns-else-i-self
unfolding quotient
returns-else-i-self c = sym (ends_next c.args.self.now.width.bits c.args.self.now.list.now c.args.i (omega arith))
