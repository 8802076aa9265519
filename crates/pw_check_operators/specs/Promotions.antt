-- Operators on one promoted operand (6.3.3.3).
use Rattle.std.specs.Prelude.{ℕ}
use Rattle.pw_types.specs.declared.tree.UnaryOperator.{UnaryOperator}
use Rattle.pw_types.specs.TypedTrees.{Expression, Node}
use Rattle.pw_types.specs.TypedTrees as T
use Rattle.pw_check_rules.specs.Kinds.{plain}
use Rattle.pw_check_rules.specs.Operands.{promote}
use Rattle.pw_types.specs.WellTyped.{type_in}

abbrev pub promoted_unary : ℕ → UnaryOperator → Expression → Expression
promoted_unary t op e = Node t (plain (type_in (promote e))) (T.Unary op (promote e))
