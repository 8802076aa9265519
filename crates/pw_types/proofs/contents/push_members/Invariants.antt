use Rattle.std.proofs.Common.{◌≡◌, ◌++◌, drop}
use Rattle.pw_types.specs.Shapes.{member_shapes}
use Rattle.pw_types.specs.Views.{view_members}
use Rattle.pw_types.proofs.contents.push_members.Given as goal

-- what is left is still to come
abbrev pub invariant-loop-member : goal.invariant-loop-member
invariant-loop-member l =
    l.text.items ++ member_shapes l.types (view_members (drop l.member-index l.members)) ≡ l.initial.text.items ++ member_shapes l.types (view_members l.members)
