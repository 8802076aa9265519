use Rattle.std.proofs.Common.{◌≡◌, drop}
use Rattle.pw_lower.specs.Statements.{choose}
use Rattle.pw_typed.specs.Views.{view_cases}
use Rattle.pw_lexpr.proofs.cases.choose.Given as goal

-- the cases that are left are still to be compared with
abbrev pub invariant-loop-case : goal.invariant-loop-case
invariant-loop-case l = choose l.value (view_cases (drop l.case-index l.cases)) l.code ≡ choose l.value (view_cases l.cases) l.fn.code
