-- What trees with lists in them show: the view of a node, by the views of its parts.
use Rattle.std.proofs.Common.{◌≡◌, ℕ, Option, Some, None, refl, ap, ◌∙◌}
use Rattle.std.specs.declared.alloc.Global.{Global}
use Rattle.std.specs.declared.boxed.Box.{Box}
use Rattle.std.specs.declared.vec.Vec.{Vec}
use Rattle.pw_types.specs.TypedTrees as tree
use Rattle.pw_typed.specs.Views.{view_symbol, view_form, view_expr_row, view_expr, view_exprs, view_initialisers, view_stmt_form, view_stmt_row, view_arm_row, view_stmts, view_arms, view_otherwise, view_stmt}
use Rattle.pw_typed.specs.declared.tree.Arm.{Arm}
use Rattle.pw_typed.specs.declared.tree.Initialiser.{Initialiser}
use Rattle.pw_typed.specs.declared.tree.Symbol.{Symbol}
use Rattle.pw_typed.specs.declared.tree.TExpr.{TExpr}
use Rattle.pw_typed.specs.declared.tree.TForm as form
use Rattle.pw_typed.specs.declared.tree.TForm.TheBlock as form_block
use Rattle.pw_typed.specs.declared.tree.TStmt.{TStmt}
use Rattle.pw_typed.specs.declared.tree.TStmtForm as stmt
use Rattle.pw_typed.specs.declared.tree.TStmtForm.TheBlock as stmt_block

-- ---- a list within a node shows what the list by itself does

of_exprs : (n : _) (row : form.Row_of-TExpr n) → view_expr_row row ≡ view_exprs (form.items-the_row-TExpr n row)
unfolding view_form
of_exprs n form.end_of-TExpr = refl
of_exprs n (form.more_of-TExpr t y e es) = ap (tree.OneExpression (view_expr (record { token = t; ty = y; form = e }))) (of_exprs _ es)

of_stmts : (n : _) (row : stmt.Row_of-TStmt n) → view_stmt_row row ≡ view_stmts (stmt.items-the_row-TStmt n row)
unfolding view_stmt_form
of_stmts n stmt.end_of-TStmt = refl
of_stmts n (stmt.more_of-TStmt t s ss) = ap (tree.OneStatement (view_stmt_form t s)) (of_stmts _ ss)

of_arms : (n : _) (row : stmt.Row_of-Arm n) → view_arm_row row ≡ view_arms (stmt.items-the_row-Arm n row)
unfolding view_stmt_form
of_arms n stmt.end_of-Arm = refl
of_arms n (stmt.more_of-Arm t e u s arms) = ap (tree.Arm t (view_expr e) (view_stmt_form u s)) (of_arms _ arms)

-- ---- nodes

pub call_view : (s : Symbol) (args : Vec TExpr Global) → view_form (form.Call s args) ≡ tree.Call (view_symbol s) (view_exprs args.items)
unfolding view_form
call_view s args =
    ap (tree.Call (view_symbol s))
    (of_exprs _ (form_block.hidden-the_row-TExpr-0 args) ∙ ap view_exprs (form_block.items_hidden-the_row-TExpr-0 args))

pub call_value_view :
    (a : Box TExpr Global) (args : Vec TExpr Global)
    → view_form (form.CallValue a args) ≡ tree.CallValue (view_expr a.value) (view_exprs args.items)
unfolding view_form
call_value_view a args =
    ap (tree.CallValue (view_expr a.value))
    (of_exprs _ (form_block.hidden-the_row-TExpr-0 args) ∙ ap view_exprs (form_block.items_hidden-the_row-TExpr-0 args))

pub block_view :
    (t first count : ℕ) (initialisers : Vec Initialiser Global) (items : Vec TStmt Global)
    → view_stmt_form t (stmt.Block first count initialisers items)
    ≡ tree.Block t first count (view_initialisers initialisers.items) (view_stmts items.items)
unfolding view_stmt_form
block_view t first count initialisers items =
    ap (tree.Block t first count (view_initialisers initialisers.items))
    (of_stmts _ (stmt_block.hidden-the_row-TStmt-0 items) ∙ ap view_stmts (stmt_block.items_hidden-the_row-TStmt-0 items))

pub if_view :
    (t : ℕ) (arms : Vec Arm Global) (o : Option (Box TStmt Global))
    → view_stmt_form t (stmt.If arms o) ≡ tree.If t (view_arms arms.items) (view_otherwise o)
unfolding view_stmt_form
if_view t arms None =
    ap (λ x. tree.If t x tree.NoElse) (of_arms _ (stmt_block.hidden-the_row-Arm-1 arms) ∙ ap view_arms (stmt_block.items_hidden-the_row-Arm-1 arms))
if_view t arms (Some b) =
    ap (λ x. tree.If t x (tree.Else (view_stmt b.value))) (of_arms _ (stmt_block.hidden-the_row-Arm-1 arms) ∙ ap view_arms (stmt_block.items_hidden-the_row-Arm-1 arms))
