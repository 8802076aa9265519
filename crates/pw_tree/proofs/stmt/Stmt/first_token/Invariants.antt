-- The walk goes on only where no label stands, and there the statement behind begins where the whole does.
use Rattle.std.proofs.Common.{◌≡◌}
use Rattle.pw_tree.specs.FirstTokens.{first_of_stmt}
use Rattle.pw_tree.specs.Views.{view_stmt}
use Rattle.pw_tree.proofs.stmt.Stmt.first_token.Given as goal

abbrev pub invariant-loop-stmt : goal.invariant-loop-stmt
invariant-loop-stmt l = first_of_stmt (view_stmt l.stmt) ≡ first_of_stmt (view_stmt l.self)
