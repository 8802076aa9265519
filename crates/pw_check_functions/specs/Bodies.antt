-- Parts of the rule of function definitions behind the head, which the code has as functions of their own.
use Rattle.pw_tree.specs.Trees.{Word, Function}
use Rattle.pw_types.specs.TypedTrees.{FunctionValue}
use Rattle.pw_check_walk.specs.Walks.{change, ◌>>=◌, ◌>>◌}
use Rattle.pw_check_rules.specs.States.{Rule, leave_scope}
use Rattle.pw_check_rules.specs.Functions.{add_function, body_rule, measured_rule}
use Rattle.pw_check_heads.specs.Parts.{Head, head_declared, head_meets}

-- a definition is met and declared, and then its body is read
unfoldable pub behind_head : Head → Function → Rule (Unit {0})
behind_head h f =
    head_meets h f.declarations >>
    head_declared h >>= λ place.
    body_rule h.word place h.ty h.bindings f.body

-- behind the body its scope is left, and the function keeps the limits
unfoldable pub end_body : Word → FunctionValue → Rule (Unit {0})
end_body w f =
    change leave_scope >>
    measured_rule w f >>
    change (add_function f)
