-- Parts of the rules of statements that the code has as functions of their own.
use Rattle.std.specs.Prelude.{ℕ, List}
use Rattle.pw_tree.specs.Trees.{Expr, Stmt, Alternative}
use Rattle.pw_types.specs.TypedTrees.{Expression, Statement}
use Rattle.pw_types.specs.TypedTrees as T
use Rattle.pw_check_walk.specs.Walks.{pure, ◌>>=◌}
use Rattle.pw_check_rules.specs.States.{Rule}
use Rattle.pw_check_labels.specs.Gathered.{gathered}
use Rattle.pw_check_rules.specs.Statements.{Behind, arms_behind, condition_rule, stmt_rule, alternative_rule}

-- one arm of an `if`
pub record OneArm : Type 0 where
  pub token : ℕ
  pub condition : Expression
  pub body : Statement

abbrev pub one_arm : ℕ → Expression → Statement → OneArm
one_arm token condition body = record { token = token; condition = condition; body = body }

unfoldable pub arm_rule : ℕ → Expr → Stmt → Rule OneArm
arm_rule t c s =
    condition_rule t c >>= λ x.
    stmt_rule s >>= λ body.
    pure (one_arm t x body)

-- an arm before others
abbrev pub with_arm : OneArm → Behind → Behind
with_arm a behind = arms_behind (T.Arm a.token a.condition a.body behind.arms) behind.otherwise

-- an alternative, with the arms before it
unfoldable pub alternative_after : List OneArm → Alternative → Rule Behind
alternative_after arms a = alternative_rule a >>= λ rest. pure (gathered with_arm arms rest)
