use Rattle.std.proofs.Common.{◌≡◌, ◌++◌, drop}
use Rattle.pw_lower.specs.Statements.{labels_of}
use Rattle.pw_typed.specs.Views.{view_cases}
use Rattle.pw_lexpr.proofs.cases.labels_of.Given as goal

-- the labels that are left stand behind those that are there
abbrev pub invariant-loop-case : goal.invariant-loop-case
invariant-loop-case l =
    l.labels.items ++ labels_of (view_cases (drop l.case-index l.cases)) l.left ≡ labels_of (view_cases l.cases) l.fn.default
