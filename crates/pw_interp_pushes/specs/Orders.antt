-- What follows in a call on what an act gives.
use Rattle.std.specs.Prelude.{ℕ, Option, List, ◌∷◌}
use Rattle.pw_value.specs.declared.value.Value.{Value}
use Rattle.pw_types.specs.TypedTrees.{Expressions}
use Rattle.pw_cmean.specs.Acts.{Act, ◌>>=◌}
use Rattle.pw_cmean.specs.Evaluation.{Env, site, used, values_of}
use Rattle.pw_cmean.specs.Execution.{Flow}
use Rattle.pw_cmean.specs.SourceRun.{calls}
use Rattle.pw_interp_todo.specs.Resuming.{Rest, Gave, Flowed, Listed}

-- on a result
abbrev pub then_gave : Act (Option Value) → Rest → Env → ℕ → Act (Unit {0})
then_gave act rest e n = act >>= λ r. rest e n (Gave r)

-- on what comes of a statement
abbrev pub then_flowed : Act Flow → Rest → Env → ℕ → Act (Unit {0})
then_flowed act rest e n = act >>= λ flow. rest e n (Flowed flow)

-- on the values of a call's arguments
abbrev pub then_listed : Act (List Value) → Rest → Env → ℕ → Act (Unit {0})
then_listed act rest e n = act >>= λ vs. rest e n (Listed vs)

-- on an argument that gave this, which has the token, and those behind it
abbrev pub then_argued : Option Value → Expressions → ℕ → Rest → Env → ℕ → Act (Unit {0})
then_argued given args token rest e n = used (site e token) given >>= λ v. values_of args token (calls e.world n) e >>= λ vs. rest e n (Listed (v ∷ vs))
