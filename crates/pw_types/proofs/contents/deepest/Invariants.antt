use Rattle.std.proofs.Common.{◌≡◌, max, drop}
use Rattle.pw_value.specs.Caps.{capped}
use Rattle.pw_types.specs.Records as spec
use Rattle.pw_types.specs.Views.{view_members}
use Rattle.pw_types.proofs.contents.deepest.Given as goal

-- what is left may be deeper
abbrev pub invariant-loop-member : goal.invariant-loop-member
invariant-loop-member l =
    max l.greatest (capped (spec.deepest l.types (view_members (drop l.member-index l.members))))
    ≡ capped (spec.deepest l.types (view_members l.members))
