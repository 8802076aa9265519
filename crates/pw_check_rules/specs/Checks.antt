-- What checking answers for a module: its typed tree where every constraint is met, or the fault of least rank at the first
-- point of the walk that is not.
use Rattle.std.specs.Prelude.{Result}
use Rattle.pw_tree.specs.Trees.{Module}
use Rattle.pw_types.specs.TypedTrees.{ModuleValue}
use Rattle.pw_check_walk.specs.declared.constraints.CheckFault.{CheckFault}
use Rattle.pw_check_walk.specs.Walks.{Walk, Done, bind, outcome}
use Rattle.pw_check_walk.specs.Answers.{Answers}
use Rattle.pw_check_rules.specs.States.{start}
use Rattle.pw_check_rules.specs.Modules.{module_rule}

-- the walk through a module
unfoldable pub checking : Module → Walk ModuleValue
checking m = bind (module_rule m start) (λ r. Done r.0)

abbrev pub Checks : Module → Result ModuleValue CheckFault → Type 0
Checks m answer = Answers (checking m) answer

unfoldable pub checked : Module → Result ModuleValue CheckFault
checked m = outcome (checking m)
