use Rattle.std.proofs.Common.{rules}
use Rattle.pw_tree.specs.Trees.{NoSuffix}
use Rattle.pw_tree.specs.Views.{view_expr}
use Rattle.pw_check_walk.proofs.CallLaws.{step_ok, step_err}
use Rattle.pw_check_declarator.specs.Declaring.{first_suffix}
use Rattle.pw_check_declarator.proofs.declarators.suffix.Goals as goal

pub returns-in_err-length-in-Array : goal.returns-in_err-length-in-Array
unfolding view_expr first_suffix
returns-in_err-length-in-Array g c = rw c.in-Array.is (step_err _ c.array_length.ensures c.in_err-length-in-Array.was (search rules))

pub returns-in_ok-length-in-Array : goal.returns-in_ok-length-in-Array
unfolding view_expr first_suffix
returns-in_ok-length-in-Array g c = rw c.in-Array.is (step_ok _ c.array_length.ensures c.in_ok-length-in-Array.was c.array_step.ensures.follows)

pub returns-in-Parameters : goal.returns-in-Parameters
unfolding first_suffix
returns-in-Parameters g c = rw (c.in-Parameters.is, c.declarators_show_their_lists.ensures.prototypes c.in-Parameters.token c.in-Parameters.parameters NoSuffix) (rw c.deref.ensures.value at c.prototype.ensures)
