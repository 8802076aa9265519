use Rattle.std.proofs.Common.{◌≡◌, max, drop}
use Rattle.pw_value.specs.Caps.{capped}
use Rattle.pw_types.specs.Records as spec
use Rattle.pw_types.specs.Views.{view_types}
use Rattle.pw_types.proofs.depths.+depth.Given as goal

-- what is left may be deeper
abbrev pub invariant-greatest_depth-loop-ty : goal.invariant-greatest_depth-loop-ty
invariant-greatest_depth-loop-ty l =
    max l.greatest (capped (spec.greatest_depth l.types (view_types (drop l.ty-index l.all))))
    ≡ capped (spec.greatest_depth l.types (view_types l.all))
