-- Function values that parse expressions, specifiers and declarators to a depth.
use Rattle.std.specs.Prelude.{ℕ, Bool, Result, Vec}
use Rattle.std.specs.declared.alloc.Global.{Global}
use denote.Ref.{MutBor}
use Rattle.pw_tree.specs.Views.{view_expr}
use Rattle.pw_tree.specs.declared.expr.Expr.{Expr}
use Rattle.pw_tree.specs.declared.expr.Specifier.{Specifier}
use Rattle.pw_parse_cursor.specs.declared.declared.Declared.{Declared}
use Rattle.pw_parse_grammar.specs.declared.place.Place.{Place}
use Rattle.pw_parse_cursor.specs.declared.stop.Stop.{Stop}
use Rattle.pw_parse_grammar.specs.Declarations.{parts}
use Rattle.pw_parse_grammar.specs.Input.{Input}
use Rattle.pw_parse_cursor.specs.Reads.{Reads}
use Rattle.pw_parse_cursor.specs.PartViews.{view_specifier_list, view_declared}

pub record Nests (depth : ℕ)
    (expr_pre : Global → MutBor Input → ℕ → ℕ → Type 0)
    (expr_post : Global → MutBor Input → ℕ → ℕ → Result Expr Stop → MutBor Input → Type 0)
    (specifiers_pre : Global → MutBor Input → ℕ → Bool → Type 0)
    (specifiers_post : Global → MutBor Input → ℕ → Bool → Result (Vec Specifier Global) Stop → MutBor Input → Type 0)
    (declarator_pre : Global → MutBor Input → ℕ → Place → Bool → Type 0)
    (declarator_post : Global → MutBor Input → ℕ → Place → Bool → Result Declared Stop → MutBor Input → Type 0) : Type 0 where
  pub expr_callable : (alloc : Global) (old : MutBor Input) (level : ℕ) → expr_pre alloc old depth level
  pub expr_reads : (alloc : Global) (old new : MutBor Input) (level : ℕ) (r : Result Expr Stop) → expr_post alloc old depth level r new
      → Reads view_expr ((parts depth).expr level old.now) r new.now
  pub specifiers_callable : (alloc : Global) (old : MutBor Input) (storage : Bool) → specifiers_pre alloc old depth storage
  pub specifiers_reads : (alloc : Global) (old new : MutBor Input) (storage : Bool) (r : Result (Vec Specifier Global) Stop) → specifiers_post alloc old depth storage r new
      → Reads view_specifier_list ((parts depth).specifiers storage old.now) r new.now
  pub declarator_callable : (alloc : Global) (old : MutBor Input) (place : Place) (typed : Bool) → declarator_pre alloc old depth place typed
  pub declarator_reads : (alloc : Global) (old new : MutBor Input) (place : Place) (typed : Bool) (r : Result Declared Stop) → declarator_post alloc old depth place typed r new
      → Reads view_declared ((parts depth).declarator place typed old.now) r new.now
