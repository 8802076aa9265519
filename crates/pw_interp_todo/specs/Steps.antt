-- What code answers that takes a step of an expression or of a statement, whatever the bound.
use Rattle.std.specs.Prelude.{ℕ, Option, Result}
use Rattle.pw_value.specs.declared.value.Value.{Value}
use Rattle.pw_cmean.specs.Acts.{Act}
use Rattle.pw_cmean.specs.Evaluation.{Env}
use Rattle.pw_cmean.specs.Execution.{Flow}
use Rattle.pw_interp_state.specs.Shown.{Shown}
use Rattle.pw_interp_calls.specs.declared.ending.Stop.{Stop}
use Rattle.pw_interp_todo.specs.declared.asked.Next.{Next}
use Rattle.pw_interp_todo.specs.declared.statements.Going.{Going}
use Rattle.pw_interp_todo.specs.Going.{going_act}
use Rattle.pw_interp_todo.specs.Leading.{Continues}
use Rattle.pw_interp_todo.specs.Operands.{next_act}

abbrev pub StepsExpression : Env → (Env → ℕ → Act (Option Value)) → Shown → Result Next Stop → Shown → Type 0
StepsExpression e act before result behind = (bound : ℕ) → Continues (λ next. next_act next e bound) e.world (act e bound) before result behind

abbrev pub StepsStatement : Env → (Env → ℕ → Act Flow) → Shown → Result Going Stop → Shown → Type 0
StepsStatement e act before result behind = (bound : ℕ) → Continues (λ going. going_act going e bound) e.world (act e bound) before result behind
