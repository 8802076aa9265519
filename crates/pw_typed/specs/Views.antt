-- The plain data that the code's typed trees show.
use Rattle.std.specs.Prelude.{ℕ, List, [], ◌∷◌, map, Option, Some, None}
use Rattle.std.specs.declared.alloc.Global.{Global}
use Rattle.std.specs.declared.boxed.Box.{Box}
use Rattle.pw_types.specs.TypedTrees as tree
use Rattle.pw_types.specs.TypedTrees.{CaseValue, LocalValue, FunctionValue, ItemValue, PlacedItem, GlobalValue, DeclaredValue, ModuleValue}
use Rattle.pw_types.specs.Views.{view_type, view_qtype}
use Rattle.pw_typed.specs.declared.tree.Arm.{Arm}
use Rattle.pw_typed.specs.declared.tree.Case.{Case}
use Rattle.pw_typed.specs.declared.tree.Declared.{Declared}
use Rattle.pw_typed.specs.declared.tree.Initialiser.{Initialiser}
use Rattle.pw_typed.specs.declared.tree.Initialiser.TheVariants as initialiser
use Rattle.pw_typed.specs.declared.tree.Local.{Local}
use Rattle.pw_typed.specs.declared.tree.Symbol.{Symbol}
use Rattle.pw_typed.specs.declared.tree.Symbol.TheVariants as symbol
use Rattle.pw_typed.specs.declared.tree.TExpr.{TExpr}
use Rattle.pw_typed.specs.declared.tree.TForm.{TForm, Row_of-TExpr, end_of-TExpr, more_of-TExpr}
use Rattle.pw_typed.specs.declared.tree.TForm as form
use Rattle.pw_typed.specs.declared.tree.TFunction.{TFunction}
use Rattle.pw_typed.specs.declared.tree.TGlobal.{TGlobal}
use Rattle.pw_typed.specs.declared.tree.TItem.{TItem}
use Rattle.pw_typed.specs.declared.tree.TItem.TheVariants as item
use Rattle.pw_typed.specs.declared.tree.TModule.{TModule}
use Rattle.pw_typed.specs.declared.tree.TStmt.{TStmt}
use Rattle.pw_typed.specs.declared.tree.TStmtForm.{TStmtForm, Row_of-TStmt, end_of-TStmt, more_of-TStmt, Row_of-Arm, end_of-Arm, more_of-Arm, Held-TStmtForm-If-1, None', Some'}
use Rattle.pw_typed.specs.declared.tree.TStmtForm as stmt

abbrev pub view_symbol : Symbol → tree.Symbol
view_symbol (symbol.External name) = tree.External name
view_symbol (symbol.Internal name) = tree.Internal name
view_symbol (symbol.Hidden number) = tree.Hidden number

-- ---- expressions; a row is a list within a tree

unfoldable mutual
  pub view_form : TForm → tree.Form
  view_form (form.Number n) = tree.Number n
  view_form (form.Str k) = tree.Str k
  view_form (form.Local k) = tree.Local k
  view_form (form.Global s) = tree.Global (view_symbol s)
  view_form (form.Function s) = tree.Function (view_symbol s)
  view_form (form.Unary' op p t y a) = tree.Unary op (tree.Node t (view_qtype y) (view_form a))
  view_form (form.Binary' op p t y a q u z b) =
      tree.Binary op (tree.Node t (view_qtype y) (view_form a)) (tree.Node u (view_qtype z) (view_form b))
  view_form (form.Logic' op p t y a q u z b) =
      tree.Logic op (tree.Node t (view_qtype y) (view_form a)) (tree.Node u (view_qtype z) (view_form b))
  view_form (form.Cond' p t y a q u z b r v w c) =
      tree.Cond (tree.Node t (view_qtype y) (view_form a)) (tree.Node u (view_qtype z) (view_form b)) (tree.Node v (view_qtype w) (view_form c))
  view_form (form.Comma' p t y a q u z b) =
      tree.Comma (tree.Node t (view_qtype y) (view_form a)) (tree.Node u (view_qtype z) (view_form b))
  view_form (form.Assign' p t y a q u z b) =
      tree.Assign (tree.Node t (view_qtype y) (view_form a)) (tree.Node u (view_qtype z) (view_form b))
  view_form (form.Compound' op x p t y a q u z b) =
      tree.Compound op (view_type x) (tree.Node t (view_qtype y) (view_form a)) (tree.Node u (view_qtype z) (view_form b))
  view_form (form.Step' op p t y a) = tree.Step op (tree.Node t (view_qtype y) (view_form a))
  view_form (form.Cast' p t y a) = tree.Cast (tree.Node t (view_qtype y) (view_form a))
  view_form (form.Decay' p t y a) = tree.Decay (tree.Node t (view_qtype y) (view_form a))
  view_form (form.Member' p t y a offset) = tree.Member (tree.Node t (view_qtype y) (view_form a)) offset
  view_form (form.Deref' p t y a) = tree.Deref (tree.Node t (view_qtype y) (view_form a))
  view_form (form.Address' p t y a) = tree.Address (tree.Node t (view_qtype y) (view_form a))
  view_form (form.Call' s l es) = tree.Call (view_symbol s) (view_expr_row es)
  view_form (form.CallValue' p t y a l es) = tree.CallValue (tree.Node t (view_qtype y) (view_form a)) (view_expr_row es)

  pub view_expr_row : {m : _} → Row_of-TExpr m → tree.Expressions
  view_expr_row end_of-TExpr = tree.NoExpression
  view_expr_row (more_of-TExpr t y e es) = tree.OneExpression (tree.Node t (view_qtype y) (view_form e)) (view_expr_row es)

abbrev pub view_expr : TExpr → tree.Expression
view_expr e = tree.Node e.token (view_qtype e.ty) (view_form e.form)

-- a list of expressions by itself
abbrev pub view_exprs : List TExpr → tree.Expressions
view_exprs [] = tree.NoExpression
view_exprs (e ∷ es) = tree.OneExpression (view_expr e) (view_exprs es)

abbrev pub view_optional : Option TExpr → Option tree.Expression
view_optional None = None
view_optional (Some e) = Some (view_expr e)

-- ---- statements

abbrev pub view_case : Case → CaseValue
view_case c = record { value = c.value; label = c.label }

abbrev pub view_cases : List Case → List CaseValue
view_cases cases = map view_case cases

abbrev pub view_initialiser : Initialiser → tree.Initialiser
view_initialiser (initialiser.Value local e) = tree.Value local (view_expr e)
view_initialiser (initialiser.Bytes local hidden parts) = tree.Bytes local hidden (map view_expr parts.items)

abbrev pub view_initialisers : List Initialiser → List tree.Initialiser
view_initialisers all = map view_initialiser all

unfoldable mutual
  -- a statement of this form at a token
  pub view_stmt_form : ℕ → TStmtForm → tree.Statement
  view_stmt_form t stmt.Empty = tree.Empty t
  view_stmt_form t (stmt.Expr e) = tree.Evaluate t (view_expr e)
  view_stmt_form t (stmt.Block' first count initialisers l ss) =
      tree.Block t first count (view_initialisers initialisers.items) (view_stmt_row ss)
  view_stmt_form t (stmt.If' l arms o) = tree.If t (view_arm_row arms) (view_else o)
  view_stmt_form t (stmt.While' e p u s) = tree.While t (view_expr e) (view_stmt_form u s)
  view_stmt_form t (stmt.Do' p u s e) = tree.Do t (view_stmt_form u s) (view_expr e)
  view_stmt_form t (stmt.For' a b c p u s) =
      tree.For t (view_optional a) (view_optional b) (view_optional c) (view_stmt_form u s)
  view_stmt_form t (stmt.Switch' e cases default p u s) =
      tree.Switch t (view_expr e) (view_cases cases.items) default (view_stmt_form u s)
  view_stmt_form t (stmt.Label' labels p u s) = tree.Label t labels.items (view_stmt_form u s)
  view_stmt_form t (stmt.Goto n) = tree.Goto t n
  view_stmt_form t stmt.Break = tree.Break t
  view_stmt_form t stmt.Continue = tree.Continue t
  view_stmt_form t (stmt.Return e) = tree.Return t (view_optional e)

  pub view_stmt_row : {m : _} → Row_of-TStmt m → tree.Statements
  view_stmt_row end_of-TStmt = tree.NoStatement
  view_stmt_row (more_of-TStmt t s ss) = tree.OneStatement (view_stmt_form t s) (view_stmt_row ss)

  pub view_arm_row : {m : _} → Row_of-Arm m → tree.Arms
  view_arm_row end_of-Arm = tree.NoArm
  view_arm_row (more_of-Arm t e u s arms) = tree.Arm t (view_expr e) (view_stmt_form u s) (view_arm_row arms)

  pub view_else : Held-TStmtForm-If-1 → tree.Otherwise
  view_else None' = tree.NoElse
  view_else (Some' p t s) = tree.Else (view_stmt_form t s)

abbrev pub view_stmt : TStmt → tree.Statement
view_stmt s = view_stmt_form s.token s.form

abbrev pub view_stmts : List TStmt → tree.Statements
view_stmts [] = tree.NoStatement
view_stmts (s ∷ ss) = tree.OneStatement (view_stmt s) (view_stmts ss)

abbrev pub view_arms : List Arm → tree.Arms
view_arms [] = tree.NoArm
view_arms (a ∷ arms) = tree.Arm a.token (view_expr a.condition) (view_stmt a.body) (view_arms arms)

-- what stands behind a last `else`
abbrev pub view_otherwise : Option (Box TStmt Global) → tree.Otherwise
view_otherwise None = tree.NoElse
view_otherwise (Some b) = tree.Else (view_stmt b.value)

-- ---- functions, objects, modules

abbrev pub view_local : Local → LocalValue
view_local l = record { name = l.name; ty = view_qtype l.ty; writable = l.writable }

abbrev pub view_locals : List Local → List LocalValue
view_locals locals = map view_local locals

abbrev pub view_function : TFunction → FunctionValue
view_function f =
    record { name = view_symbol f.name; token = f.token; ty = view_qtype f.ty; params = f.params; locals = view_locals f.locals.items; labels = f.labels; named = f.named.items; body = view_stmt f.body }

abbrev pub view_item : TItem → ItemValue
view_item (item.Bytes bytes) = tree.ItemBytes bytes.items
view_item (item.Address s offset) = tree.ItemAddress (view_symbol s) offset

abbrev pub view_placed : ℕ × TItem → PlacedItem
view_placed p = record { offset = p.0; item = view_item p.1 }

abbrev pub view_global : TGlobal → GlobalValue
view_global g =
    record { name = view_symbol g.name; ty = view_qtype g.ty; writable = g.writable; items = map view_placed g.items.items }

abbrev pub view_declared : Declared → DeclaredValue
view_declared d = record { name = d.name; ty = view_qtype d.ty }

abbrev pub view_module : TModule → ModuleValue
view_module m =
    record { records = m.types; globals = map view_global m.globals.items; functions = map view_function m.functions.items; declared = map view_declared m.declared.items }
