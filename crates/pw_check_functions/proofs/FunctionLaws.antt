-- The rule of function definitions, in the order in which the code has its parts.
use Rattle.std.proofs.Common.{◌≡◌}
use Rattle.pw_tree.specs.Trees.{Function}
use Rattle.pw_check_walk.specs.Walks.{bind}
use Rattle.pw_check_walk.proofs.CallLaws.{bind_assoc, bind_done}
use Rattle.pw_check_rules.specs.Functions.{function_rule}
use Rattle.pw_check_rules.specs.States.{State}
use Rattle.pw_check_heads.specs.Parts.{head_declared, head_meets, head_of, head_rule}
use Rattle.pw_check_functions.specs.Bodies.{behind_head}

-- a definition is its head, and then what stands behind it
pub function_split : (f : Function) (s : State) → function_rule f s ≡ bind (head_rule f s) (λ h. behind_head h.0 f h.1)
unfolding function_rule head_rule head_of behind_head head_meets head_declared
function_split f s = simp (bind_assoc, bind_done)
