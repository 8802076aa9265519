use Rattle.std.proofs.Common.{◌≡◌, drop}
use Rattle.pw_value.specs.declared.value.Value.TheVariants as V
use Rattle.pw_typed.specs.Views.{view_cases}
use Rattle.pw_cmean.specs.Execution.{label_for}
use Rattle.pw_interp_flows.proofs.uses.label_of.Given as goal

-- the label is that of the cases that are left
abbrev pub invariant-loop-case : goal.invariant-loop-case
invariant-loop-case l = label_for (view_cases l.cases) l.default (V.Num l.n) ≡ label_for (view_cases (drop l.case-index l.cases)) l.default (V.Num l.n)
