-- The part of the rule of modules that code has as a function of its own.
use Rattle.pw_tree.specs.Trees.{Module}
use Rattle.pw_check_walk.specs.Walks.{asks, ◌>>=◌, ◌>>◌}
use Rattle.pw_check_rules.specs.States.{Rule, linked_in}
use Rattle.pw_check_rules.specs.Modules.{externals_rule, end_rule}

-- the constraints of a module, without what it makes
unfoldable pub met_rule : Module → Rule (Unit {0})
met_rule m =
    externals_rule m.externals >>
    asks linked_in >>= λ names.
    end_rule names
