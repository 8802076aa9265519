use Rattle.std.proofs.Common.{◌≡◌, drop}
use Rattle.pw_lower.specs.Statements.{begun}
use Rattle.pw_lexpr.proofs.cases.begin_labels.Given as goal

-- the labels that are left are still to be begun
abbrev pub invariant-loop-label : goal.invariant-loop-label
invariant-loop-label l = begun (drop l.label-index l.labels) l.code ≡ begun l.labels l.fn.code
