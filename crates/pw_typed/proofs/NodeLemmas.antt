-- The nodes of an expression, by those of its first operand and of the others.
use Rattle.std.proofs.Common.{◌≡◌, ℕ, ◌+◌, List, [], ◌∷◌, map, sum_by, refl, ap, ◌∙◌, arith}
use Rattle.std.proofs.lemmas.List.Sums.{sum_by-cons}
use Rattle.std.specs.Option.{option_map_or}
use Rattle.pw_types.specs.TypedTrees.{Expression, Node, Number, Str, Local, Global, Function, Unary, Binary, Logic, Cond, Comma, Assign, Compound, Step, Cast, Decay, Member, Deref, Address, Call, CallValue}
use Rattle.pw_typed.specs.Views.{view_expr, view_exprs}
use Rattle.pw_typed.specs.declared.tree.TExpr.{TExpr}
use Rattle.pw_types.specs.Rooms.{expr_nodes, nodes_of_all}
use Rattle.pw_types.specs.Spines.{first_of, others_of}

-- the nodes of the first operand
abbrev pub first_nodes : Expression → ℕ
first_nodes e = option_map_or expr_nodes (first_of e) 0

pub nodes_split : (e : Expression) → expr_nodes e ≡ 1 + (first_nodes e + nodes_of_all (others_of e))
nodes_split (Node t y (Number n)) = omega arith
nodes_split (Node t y (Str k)) = omega arith
nodes_split (Node t y (Local k)) = omega arith
nodes_split (Node t y (Global s)) = omega arith
nodes_split (Node t y (Function s)) = omega arith
nodes_split (Node t y (Unary op a)) = omega arith
nodes_split (Node t y (Binary op a b)) = omega arith
nodes_split (Node t y (Logic op a b)) = omega arith
nodes_split (Node t y (Cond a b c)) = omega arith
nodes_split (Node t y (Comma a b)) = omega arith
nodes_split (Node t y (Assign a b)) = omega arith
nodes_split (Node t y (Compound op ty a b)) = omega arith
nodes_split (Node t y (Step op a)) = omega arith
nodes_split (Node t y (Cast a)) = omega arith
nodes_split (Node t y (Decay a)) = omega arith
nodes_split (Node t y (Member a offset)) = omega arith
nodes_split (Node t y (Deref a)) = omega arith
nodes_split (Node t y (Address a)) = omega arith
nodes_split (Node t y (Call s args)) = omega arith
nodes_split (Node t y (CallValue a args)) = omega arith

-- the nodes of expressions in a list
pub sum-nodes : (es : List TExpr) → sum_by expr_nodes (map view_expr es) ≡ nodes_of_all (view_exprs es)
sum-nodes [] = refl
sum-nodes (e ∷ es) =
    sum_by-cons expr_nodes (view_expr e) (map view_expr es) ∙ ap (λ n. expr_nodes (view_expr e) + n) (sum-nodes es)
