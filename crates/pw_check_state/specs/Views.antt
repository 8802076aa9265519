-- The plain data that nodes, operands and lists of initialisers show.
use Rattle.std.specs.Prelude.{ℕ, List}
use Rattle.std.specs.declared.alloc.Global.{Global}
use Rattle.std.specs.declared.boxed.Box.{Box}
use Rattle.std.specs.declared.vec.Vec.{Vec}
use Rattle.pw_typed.specs.declared.tree.Initialiser.{Initialiser}
use Rattle.pw_typed.specs.declared.tree.TExpr.{TExpr}
use Rattle.pw_typed.specs.declared.tree.TForm.{TForm}
use Rattle.pw_typed.specs.Views.{view_expr, view_form, view_initialisers}
use Rattle.pw_types.specs.Views.{view_qtype}
use Rattle.pw_types.specs.declared.ctype.QType.{QType}
use Rattle.pw_types.specs.TypedTrees as tree
use Rattle.pw_types.specs.TypedTrees.{Expression, Node}
use Rattle.pw_check_rules.specs.Operands as rules
use Rattle.pw_check_state.specs.declared.operand.Operand.{Operand}

abbrev pub view_node : Box TExpr Global → Expression
view_node e = view_expr e.value

abbrev pub view_operand : Operand → rules.Operand
view_operand a = record { node = view_expr a.node.value; lvalue = a.lvalue; register = a.register }

-- the node of this form
abbrev pub view_node_at : ℕ → QType → TForm → Expression
view_node_at token ty form = Node token (view_qtype ty) (view_form form)

abbrev pub view_made : Vec Initialiser Global → List tree.Initialiser
view_made all = view_initialisers all.items
