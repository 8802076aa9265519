use Rattle.std.proofs.Common.{◌≡◌, drop}
use Rattle.pw_check_rules.specs.Compatible as spec
use Rattle.pw_types.specs.Views.{view_types}
use Rattle.pw_check_types.proofs.compatibility.+compatible.Given as goal

-- what is left of both lists decides
abbrev pub invariant-compatible_parameters-loop-q : goal.invariant-compatible_parameters-loop-q
invariant-compatible_parameters-loop-q l =
    spec.compatible_parameters (view_types (drop l.q-index l.a)) (view_types l.rest)
    ≡ spec.compatible_parameters (view_types l.a) (view_types l.b)
