-- The rules of lists of statements, in the order in which the code has their parts.
use Rattle.std.proofs.Common.{◌≡◌, List, [], ◌∷◌, map, refl, ap}
use Rattle.pw_tree.specs.Trees as S
use Rattle.pw_tree.specs.Views.{view_stmt, view_stmts}
use Rattle.pw_tree.specs.declared.stmt.Stmt.{Stmt}
use Rattle.pw_types.specs.TypedTrees as T
use Rattle.pw_typed.specs.Views as typed
use Rattle.pw_typed.specs.declared.tree.TStmt.{TStmt}
use Rattle.pw_check_walk.specs.Walks.{Done, bind}
use Rattle.pw_check_rules.specs.States.{State}
use Rattle.pw_check_rules.specs.Statements.{stmt_rule, stmts_rule}
use Rattle.pw_check_labels.specs.Gathered.{gathered}
use Rattle.pw_check_labels.proofs.Gathering.{behind_one}

pub stmts_more : (x : Stmt) (xs : List Stmt) (s : State)
    → stmts_rule (view_stmts (x ∷ xs)) s ≡ bind (stmt_rule (view_stmt x) s) (λ t. behind_one T.OneStatement t.0 (stmts_rule (view_stmts xs) t.1))
unfolding stmt_rule
stmts_more x xs s = refl

pub stmts_none : (s : State) → stmts_rule S.NoStmt s ≡ Done (T.NoStatement, s)
unfolding stmt_rule
stmts_none s = refl

pub all_statements : (xs : List TStmt) → gathered T.OneStatement (map typed.view_stmt xs) T.NoStatement ≡ typed.view_stmts xs
all_statements [] = refl
all_statements (x ∷ xs) = ap (T.OneStatement (typed.view_stmt x)) (all_statements xs)
