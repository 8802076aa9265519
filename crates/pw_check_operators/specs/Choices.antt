-- What `?:` makes of its operands.
use Rattle.std.specs.Prelude.{ℕ}
use Rattle.pw_types.specs.TypedTrees.{Expression, Node}
use Rattle.pw_types.specs.TypedTrees as T
use Rattle.pw_check_rules.specs.Kinds.{plain}
use Rattle.pw_check_rules.specs.Operands.{Operand, value_operand, cast_to}
use Rattle.pw_check_rules.specs.Operators.{choice_type}

abbrev pub conditional_operand : ℕ → Expression → Expression → Expression → Operand
conditional_operand t c a b =
    value_operand (Node t (plain (choice_type a b)) (T.Cond c (cast_to (choice_type a b) a) (cast_to (choice_type a b) b)))
