use Rattle.std.proofs.Common.{◌≡◌, drop, map}
use Rattle.pw_typed.specs.Views.{view_expr}
use Rattle.pw_types.specs.Views.{view_types}
use Rattle.pw_check_rules.specs.Operators.{arguments_fit}
use Rattle.pw_check_postfix.proofs.calls.arguments_fit.Given as goal

-- what is left fits where all fit
abbrev pub invariant-loop-parameter : goal.invariant-loop-parameter
invariant-loop-parameter l =
    arguments_fit (view_types (drop l.parameter-index l.parameters)) (map view_expr l.rest)
    ≡ arguments_fit (view_types l.parameters) (map view_expr l.args)
