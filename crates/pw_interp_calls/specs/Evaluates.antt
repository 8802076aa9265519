-- What code that evaluates an expression answers, where calls have a bound.
use Rattle.std.specs.Prelude.{ℕ, Option, Result}
use Rattle.pw_value.specs.declared.value.Value.{Value}
use Rattle.pw_types.specs.TypedTrees.{Expression}
use Rattle.pw_cmean.specs.Evaluation.{Env, answer_of, place_of}
use Rattle.pw_cmean.specs.SourceRun.{calls}
use Rattle.pw_interp_state.specs.Shown.{Shown}
use Rattle.pw_interp_calls.specs.declared.ending.Stop.{Stop}
use Rattle.pw_interp_calls.specs.Answers.{Answers}

-- its result
abbrev pub Evaluates : Env → ℕ → Expression → Shown → Result (Option Value) Stop → Shown → Type 0
Evaluates e bound a before result behind = Answers (λ v. v) e.world (answer_of a (calls e.world bound) e) before result behind

-- the place that it denotes
abbrev pub Locates : Env → ℕ → Expression → Shown → Result Value Stop → Shown → Type 0
Locates e bound a before result behind = Answers (λ v. v) e.world (place_of a (calls e.world bound) e) before result behind
