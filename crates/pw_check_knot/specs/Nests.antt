-- Function values that check expressions, specifiers and declarators to a depth.
use Rattle.std.specs.Prelude.{ℕ, Result, List}
use Rattle.std.specs.Borrow.{Bor}
use Rattle.std.specs.declared.alloc.Global.{Global}
use denote.Ref.{MutBor}
use Rattle.pw_tree.specs.Views.{view_declarator, view_expr, view_specifiers}
use Rattle.pw_tree.specs.declared.expr.Declarator.{Declarator}
use Rattle.pw_tree.specs.declared.expr.Expr.{Expr}
use Rattle.pw_tree.specs.declared.expr.Specifier.{Specifier}
use Rattle.pw_check_walk.specs.declared.constraints.CheckFault.{CheckFault}
use Rattle.pw_check_rules.specs.Declarations.{specified_rule}
use Rattle.pw_check_rules.specs.Phrases.{declarator_rule, expr_rule}
use Rattle.pw_check_state.specs.Follows.{Leads}
use Rattle.pw_check_state.specs.PhraseViews.{view_declared, view_specified}
use Rattle.pw_check_state.specs.StateViews.{view_state}
use Rattle.pw_check_state.specs.Views.{view_operand}
use Rattle.pw_check_state.specs.declared.operand.Operand.{Operand}
use Rattle.pw_check_state.specs.declared.phrase.Declared.{Declared}
use Rattle.pw_check_state.specs.declared.phrase.Specified.{Specified}
use Rattle.pw_check_state.specs.declared.state.State.{State}

pub record Nests (depth : ℕ)
    (expr_pre : Global → MutBor State → ℕ → Bor Expr → Type 0)
    (expr_post : Global → MutBor State → ℕ → Bor Expr → Result Operand CheckFault → MutBor State → Type 0)
    (specifiers_pre : Global → MutBor State → ℕ → Bor (List Specifier) → ℕ → Type 0)
    (specifiers_post : Global → MutBor State → ℕ → Bor (List Specifier) → ℕ → Result Specified CheckFault → MutBor State → Type 0)
    (declarator_pre : Global → MutBor State → ℕ → Bor Declarator → Type 0)
    (declarator_post : Global → MutBor State → ℕ → Bor Declarator → Result Declared CheckFault → MutBor State → Type 0) : Type 0 where
  pub expr_callable : (alloc : Global) (old : MutBor State) (expr : Bor Expr) → expr_pre alloc old depth expr
  pub expr_checks : (alloc : Global) (old new : MutBor State) (expr : Bor Expr) (r : Result Operand CheckFault) → expr_post alloc old depth expr r new
      → Leads view_operand (expr_rule (view_expr expr.now)) (view_state old.now) r (view_state new.now)
  pub specifiers_callable : (alloc : Global) (old : MutBor State) (specifiers : Bor (List Specifier)) (first : ℕ) → specifiers_pre alloc old depth specifiers first
  pub specifiers_check : (alloc : Global) (old new : MutBor State) (specifiers : Bor (List Specifier)) (first : ℕ) (r : Result Specified CheckFault) → specifiers_post alloc old depth specifiers first r new
      → Leads view_specified (specified_rule (view_specifiers specifiers.now) first) (view_state old.now) r (view_state new.now)
  pub declarator_callable : (alloc : Global) (old : MutBor State) (declarator : Bor Declarator) → declarator_pre alloc old depth declarator
  pub declarator_checks : (alloc : Global) (old new : MutBor State) (declarator : Bor Declarator) (r : Result Declared CheckFault) → declarator_post alloc old depth declarator r new
      → Leads view_declared (declarator_rule (view_declarator declarator.now)) (view_state old.now) r (view_state new.now)
