use Rattle.std.proofs.Common.{◌≡◌, drop}
use Rattle.pw_check_rules.specs.Kinds as spec
use Rattle.pw_types.specs.Views.{view_types}
use Rattle.pw_check_types.proofs.same.+same.Given as goal

-- what is left of both lists decides
abbrev pub invariant-same_types-loop-q : goal.invariant-same_types-loop-q
invariant-same_types-loop-q l =
    spec.same_types (view_types (drop l.q-index l.a)) (view_types l.rest) ≡ spec.same_types (view_types l.a) (view_types l.b)
