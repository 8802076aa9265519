-- The walk goes down first operands, which begin where the whole does.
use Rattle.std.proofs.Common.{◌≡◌}
use Rattle.pw_tree.specs.FirstTokens.{first_of_expr}
use Rattle.pw_tree.specs.Views.{view_expr}
use Rattle.pw_tree.proofs.expr.Expr.first_token.Given as goal

abbrev pub invariant-loop-e : goal.invariant-loop-e
invariant-loop-e l = first_of_expr (view_expr l.e) ≡ first_of_expr (view_expr l.self)
