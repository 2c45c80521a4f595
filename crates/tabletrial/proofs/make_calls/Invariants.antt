use Rattle.tabletrial.proofs.make_calls.Given as goal

-- the table stays sound
abbrev pub invariant-loop-step : goal.invariant-loop-step
invariant-loop-step g l = g.X.Table.sound l.table
