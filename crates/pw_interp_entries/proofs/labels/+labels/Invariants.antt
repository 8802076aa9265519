use Rattle.std.proofs.Common.{◌≡◌, drop}
use Rattle.pw_types.specs.Labels.{labels_among, labels_of_arms}
use Rattle.pw_typed.specs.Views.{view_arms, view_stmts}
use Rattle.pw_cmean.specs.Execution.{holds}
use Rattle.pw_interp_entries.proofs.labels.+labels.Given as goal

-- the label stands among the statements that are left if it stands among all
abbrev pub invariant-is_among-loop-statement : goal.invariant-is_among-loop-statement
invariant-is_among-loop-statement l = holds (labels_among (view_stmts l.statements)) l.label ≡ holds (labels_among (view_stmts (drop l.statement-index l.statements))) l.label

-- the label stands in the arms that are left and behind them if it stands in the whole
abbrev pub invariant-is_in_arms-loop-arm : goal.invariant-is_in_arms-loop-arm
invariant-is_in_arms-loop-arm l =
    holds (labels_of_arms (view_arms l.arms)) l.label
    ≡ holds (labels_of_arms (view_arms (drop l.arm-index l.arms))) l.label
