use Rattle.std.proofs.Common.{◌≡◌, drop}
use Rattle.pw_types.specs.Sizes as sizes
use Rattle.pw_types.specs.Views.{view_types}
use Rattle.pw_types.proofs.layouts.+kept_size.Given as goal

-- what is left decides
abbrev pub invariant-keep_sizes-loop-ty : goal.invariant-keep_sizes-loop-ty
invariant-keep_sizes-loop-ty l =
    sizes.first_oversize l.types (view_types (drop l.ty-index l.all)) ≡ sizes.first_oversize l.types (view_types l.all)
