use Rattle.std.proofs.Common.{◌≡◌, drop}
use Rattle.pw_check_rules.specs.Compatible as spec
use Rattle.pw_types.specs.Views.{view_types}
use Rattle.pw_check_types.proofs.TypeLists.{with_types}
use Rattle.pw_check_types.proofs.composites.+composite.Given as goal

-- what is made, and behind it the composites of what is left
abbrev pub invariant-composite_parameters-loop-q : goal.invariant-composite_parameters-loop-q
invariant-composite_parameters-loop-q l =
    with_types (view_types l.made.items) (spec.composite_parameters (view_types (drop l.q-index l.a)) (view_types l.rest))
    ≡ spec.composite_parameters (view_types l.a) (view_types l.b)
