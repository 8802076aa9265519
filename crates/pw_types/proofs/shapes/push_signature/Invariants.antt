use Rattle.std.proofs.Common.{◌≡◌, ◌++◌, drop}
use Rattle.pw_types.specs.Shapes as spec
use Rattle.pw_types.specs.Views.{view_types}
use Rattle.pw_types.proofs.shapes.push_signature.Given as goal

-- what is left is still to come
abbrev pub invariant-loop-param : goal.invariant-loop-param
invariant-loop-param l =
    l.text.items ++ spec.letters_of (view_types (drop l.param-index l.params)) ≡ l.initial.text.items ++ spec.letters_of (view_types l.params)
