-- The node of a compound assignment, by how it works.
use Rattle.std.proofs.Common.{◌≡◌, ℕ, Bool, true, false, if◌then◌else◌, refl}
use Rattle.pw_tree.specs.declared.operator.BinaryOperator.{BinaryOperator}
use Rattle.pw_tree.specs.declared.operator.BinaryOperator.TheVariants as O
use Rattle.pw_types.specs.declared.tree.BinaryOperator.{BinaryOperator as TypedOperator}
use Rattle.pw_types.specs.TypeTrees.{CType}
use Rattle.pw_types.specs.TypedTrees.{Expression, Node, type_at}
use Rattle.pw_types.specs.TypedTrees as T
use Rattle.pw_check_rules.specs.Kinds.{is_pointer, unqualified}
use Rattle.pw_check_rules.specs.Operands.{common_type, cast_to}
use Rattle.pw_types.specs.WellTyped.{type_in}
use Rattle.pw_check_rules.specs.Operators.{compound_node, typed_binary}
use Rattle.pw_check_operators.specs.Compounds.{compound_operands}

abbrev worked_node : ℕ → TypedOperator → Expression → CType × Expression → Expression
worked_node t op a w = Node t (unqualified (type_at a)) (T.Compound op w.0 a w.1)

of_either : (t : ℕ) (op : TypedOperator) (a : Expression) (pointer : Bool) (v w : CType × Expression)
    → (if pointer then worked_node t op a v else worked_node t op a w) ≡ worked_node t op a (if pointer then v else w)
of_either t op a true v w = refl
of_either t op a false v w = refl

pub compound_by : (t : ℕ) (op : BinaryOperator) (a b : Expression)
    → compound_node t op a b
    ≡ Node t (unqualified (type_at a)) (T.Compound (typed_binary op) (compound_operands op a b).0 a (compound_operands op a b).1)
compound_by t O.LeftShift a b = refl
compound_by t O.RightShift a b = refl
compound_by t op a b =
    of_either t (typed_binary op) a (is_pointer (type_in a)) (type_in a, b) (common_type a b, cast_to (common_type a b) b)
