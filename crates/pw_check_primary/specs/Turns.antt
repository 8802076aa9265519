-- Single operators: before an operand, in a chain, and behind a primary expression.
use Rattle.std.specs.Prelude.{ℕ, List, [], ◌∷◌, ◌++◌, Vec, map}
use Rattle.std.specs.declared.alloc.Global.{Global}
use Rattle.pw_tree.specs.declared.operator.Access.TheVariants.{Dot, Arrow}
use Rattle.pw_tree.specs.declared.operator.BinaryOperator.{BinaryOperator}
use Rattle.pw_tree.specs.declared.operator.StepOperator.{StepOperator}
use Rattle.pw_tree.specs.declared.operator.StepOperator.TheVariants as J
use Rattle.pw_tree.specs.declared.operator.UnaryOperator.{UnaryOperator}
use Rattle.pw_tree.specs.Trees.{Expr, Postfixes}
use Rattle.pw_tree.specs.Trees as S
use Rattle.pw_typed.specs.declared.tree.TExpr.{TExpr}
use Rattle.pw_typed.specs.Views.{view_expr}
use Rattle.pw_types.specs.declared.tree.StepOperator.TheVariants as Q
use Rattle.pw_types.specs.declared.tree.StepOperator.{StepOperator as TypedStep}
use Rattle.pw_types.specs.TypedTrees.{Expression}
use Rattle.pw_check_walk.specs.Walks.{pure, ◌>>=◌}
use Rattle.pw_check_rules.specs.Operands.{Operand}
use Rattle.pw_check_rules.specs.Operators.{value_rule, operation_rule, index_rule, call_rule, dot_rule, arrow_rule, sign_rule, step_rule}
use Rattle.pw_check_rules.specs.Phrases.{expr_rule, arguments_rule}
use Rattle.pw_check_rules.specs.Statements.{whole_rule}
use Rattle.pw_check_rules.specs.States.{Rule}

-- `++` and `--` before their operand
abbrev pub step_before_of : ℕ → TypedStep → Expr → Rule Operand
step_before_of t op e = expr_rule e >>= λ a. step_rule t op a

abbrev pub sign_of : ℕ → UnaryOperator → Expr → Rule Operand
sign_of t op e = whole_rule e >>= λ x. sign_rule t op x

-- an operator with the operand behind it
abbrev pub one_operation : ℕ → BinaryOperator → Expr → Operand → Rule Operand
one_operation t op e a = value_rule a >>= λ x. whole_rule e >>= λ y. operation_rule t op x y

abbrev pub one_index : ℕ → Expr → Operand → Rule Operand
one_index t e a = value_rule a >>= λ x. whole_rule e >>= λ y. index_rule t x y

abbrev pub one_call : ℕ → S.Arguments → Operand → Rule Operand
one_call t args a = value_rule a >>= λ x. arguments_rule args >>= λ es. call_rule t x es

abbrev pub one_arrow : ℕ → S.Word → Operand → Rule Operand
one_arrow t w a = value_rule a >>= λ x. arrow_rule t w x

-- `++` and `--` behind their operand
abbrev pub step_behind : StepOperator → TypedStep
step_behind J.Increment = Q.IncrementBehind
step_behind J.Decrement = Q.DecrementBehind

-- the first of what stands behind an operand
unfoldable pub first_postfix : Postfixes → Operand → Rule Operand
first_postfix S.NoPostfix a = pure a
first_postfix (S.Index t e rest) a = one_index t e a
first_postfix (S.Call t args rest) a = one_call t args a
first_postfix (S.Select t Dot w rest) a = dot_rule t w a
first_postfix (S.Select t Arrow w rest) a = one_arrow t w a
first_postfix (S.Step t op rest) a = step_rule t (step_behind op) a

-- one argument more, behind the values of those before
abbrev pub one_argument : Expr → List Expression → Rule (List Expression)
one_argument e values = whole_rule e >>= λ x. pure (values ++ x ∷ [])

-- the values of arguments, behind those before
abbrev pub values_behind : List Expression → S.Arguments → Rule (List Expression)
values_behind values args = arguments_rule args >>= λ more. pure (values ++ more)

abbrev pub view_values : Vec TExpr Global → List Expression
view_values values = map view_expr values.items
