-- What checking answers is what the walk comes to.
use Rattle.std.specs.Prelude.{◌≡◌, ◌↔◌, Result}
use Rattle.pw_tree.specs.Trees.{Module}
use Rattle.pw_types.specs.TypedTrees.{ModuleValue}
use Rattle.pw_check_walk.specs.declared.constraints.CheckFault.{CheckFault}
use Rattle.pw_check_walk.proofs.WalkLaws.{one_answer}
use Rattle.pw_check_rules.specs.Checks.{Checks, checked, checking}

pub checks_is_exact : (m : Module) (answer : Result ModuleValue CheckFault) → Checks m answer ↔ answer ≡ checked m
unfolding checked
checks_is_exact m answer = one_answer (checking m) answer
