-- A function value that checks statements to a depth.
use Rattle.std.specs.Prelude.{ℕ, Result}
use Rattle.std.specs.Borrow.{Bor}
use Rattle.std.specs.declared.alloc.Global.{Global}
use denote.Ref.{MutBor}
use Rattle.pw_check_state.specs.Follows.{Leads}
use Rattle.pw_check_state.specs.StateViews.{view_state}
use Rattle.pw_check_state.specs.declared.state.State.{State}
use Rattle.pw_check_rules.specs.Statements.{stmt_rule}
use Rattle.pw_tree.specs.declared.stmt.Stmt.{Stmt}
use Rattle.pw_tree.specs.Views.{view_stmt}
use Rattle.pw_typed.specs.Views as typed
use Rattle.pw_typed.specs.declared.tree.TStmt.{TStmt}
use Rattle.pw_check_walk.specs.declared.constraints.CheckFault.{CheckFault}

pub record Nests (depth : ℕ)
    (pre : Global → MutBor State → ℕ → Bor Stmt → Type 0)
    (post : Global → MutBor State → ℕ → Bor Stmt → Result TStmt CheckFault → MutBor State → Type 0) : Type 0 where
  pub callable : (alloc : Global) (old : MutBor State) (s : Bor Stmt) → pre alloc old depth s
  pub leads : (alloc : Global) (old new : MutBor State) (s : Bor Stmt) (r : Result TStmt CheckFault) →
      post alloc old depth s r new → Leads typed.view_stmt (stmt_rule (view_stmt s.now)) (view_state old.now) r (view_state new.now)
