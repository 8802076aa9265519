-- How a compound assignment works (6.3.16.2): the type in which it does, and its right operand in the type that it has
-- there.
use Rattle.std.specs.Prelude.{if◌then◌else◌}
use Rattle.pw_tree.specs.declared.operator.BinaryOperator.{BinaryOperator}
use Rattle.pw_tree.specs.declared.operator.BinaryOperator.TheVariants as O
use Rattle.pw_types.specs.TypeTrees.{CType}
use Rattle.pw_types.specs.TypedTrees.{Expression}
use Rattle.pw_check_rules.specs.Kinds.{is_pointer}
use Rattle.pw_check_rules.specs.Operands.{promote, common_type, cast_to}
use Rattle.pw_types.specs.WellTyped.{type_in}

-- each operand of a shift is promoted by itself
abbrev pub shift_operands : Expression → Expression → CType × Expression
shift_operands a b = (type_in (promote a), promote b)

abbrev pub sum_operands : Expression → Expression → CType × Expression
sum_operands a b =
    if is_pointer (type_in a) then (type_in a, b) else (common_type a b, cast_to (common_type a b) b)

abbrev pub compound_operands : BinaryOperator → Expression → Expression → CType × Expression
compound_operands O.LeftShift a b = shift_operands a b
compound_operands O.RightShift a b = shift_operands a b
compound_operands op a b = sum_operands a b
